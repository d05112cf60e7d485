-- What a copy gives, where its reading has stopped.
use Rattle.std.proofs.Common.{◌≡◌, ℕ, false, List, Option, Some, None, length, refl, sym, subst, ap, ◌∙◌}
use Rattle.std.specs.Prelude.{IfSome, IsSomeAnd}
use Rattle.jls_partial.specs.Partial.{PartialPicture}
use Rattle.jls_copy.specs.CopyReads.{CopyReads, CopyGivesNone}
use Rattle.jls_copy.specs.ReadCopy.{ReadCopy}
use Rattle.jls_copy.specs.declared.end.End.{End}
use Rattle.jls_copy.specs.declared.piece.PieceRecord.{PieceRecord}
use Rattle.jls_copy.specs.declared.reader.CopyFault.{CopyFault}
use Rattle.jls_copy.specs.declared.reader.CopyFault.TheVariants as copy
use Rattle.jls_partial.specs.declared.text_fault.TextFault.{TextFault}
use Rattle.jls_io.specs.Event.{History, GrewBy}
use Rattle.jls_io.proofs.Growing.{grew_as}
use Rattle.jls_station.specs.Given.{Given, CopyReport, by_copy, given_by_copy, given_of, marked, report_of}
use Rattle.jls_station.specs.InputFaults.{input_fault_of_copy, IsCopyRefused}
use Rattle.jls_station.specs.Inputs.{IsCopyDone, ReadsGive, ReadsRefuse}
use Rattle.jls_station.specs.Reading.{IsRead}
use Rattle.jls_station.specs.TakingCopies.{IsTakenFor, no_frame, unread, for_memory, CopyGives, CopyStops, no_picture, not_read}
use Rattle.jls_station.specs.TakingCopies.{after_the_last}
use Rattle.jls_station.specs.Texts.{is_text}
use Rattle.jls_station.specs.declared.input.ReadStop.{ReadStop}
use Rattle.jls_station.specs.declared.input.ReadStop.TheVariants.{Whole, Failed, Turns}
use Rattle.jls_station.specs.declared.input.InputFault.{InputFault}
use Rattle.jls_station.specs.declared.input.InputFault.TheVariants as input
use Rattle.jls_station.specs.declared.take_copy.TakeFault.{TakeFault}
use Rattle.jls_station.specs.declared.take_copy.TakeFault.TheVariants as take
use Rattle.jls_station.proofs.OneInput.{given_so, read_as_input, refused_as_copy}

-- what was taken out of a copy that reads so
pub copy_given : (source : Option ℕ) (reader : Option (List ℕ)) (read : ReadCopy) (p : PartialPicture) (pieces : List PieceRecord) (n : ℕ)
    (e : End) (count : ℕ) (stop : ReadStop)
    → p ≡ marked source read.partial → pieces ≡ read.pieces → n ≡ read.piece_count → e ≡ read.ended
    → IfSome reader (λ bytes. count ≡ length bytes)
    → IfSome reader (λ bytes. CopyReads bytes read)
    → IfSome reader (λ bytes. (r : ReadCopy) × CopyReads bytes r × (p ≡ marked source r.partial)
    × (record { found = record { pieces = pieces; piece_count = n; ended = e; count = count }; stop = stop } ≡ report_of bytes r stop))
copy_given source None read p pieces n e count stop a b c d m h = tt
copy_given source (Some bytes) read p pieces n e count stop a b c d m h =
    (read, h, a, λ i. record { found = record { pieces = b i; piece_count = c i; ended = d i; count = m i }; stop = stop })

-- why a copy is refused that gives nothing
pub refused_so : (reader : Option (List ℕ)) (f : CopyFault) (stop : ReadStop) (count : ℕ) (answer : InputFault)
    → IfSome reader (λ bytes. CopyGivesNone bytes f)
    → IfSome reader (λ bytes. count ≡ length bytes) → answer ≡ input_fault_of_copy f stop count
    → IfSome reader (λ bytes. IsCopyRefused bytes stop answer)
refused_so None f stop count answer h n is = tt
refused_so (Some bytes) f stop count answer h n is = (f, h, is ∙ ap (λ (m : ℕ). input_fault_of_copy f stop m) n)

-- a reader can be refused for want of memory
pub refused_for_memory : (reader : Option (List ℕ)) (stop : ReadStop) → IfSome reader (λ bytes. IsCopyRefused bytes stop input.OutOfMemory)
refused_for_memory None stop = tt
refused_for_memory (Some bytes) stop = (copy.OutOfMemory, tt, refl)

module _ (source : Option ℕ) (first : List ℕ) (stop : ReadStop) (old new : History) (not_text : is_text first ≡ false) where
  -- a copy with a frame
  pub copy_gives : (reader : Option (List ℕ)) (p : PartialPicture) (report : CopyReport) (g : Given) → g ≡ given_of p (Some report)
      → IsSomeAnd reader (λ bytes. is_text bytes ≡ is_text first)
      → IsSomeAnd reader (λ bytes. GrewBy (λ reads. IsRead IsCopyDone reads bytes stop) old new)
      → IfSome reader (λ bytes. (r : ReadCopy) × CopyReads bytes r × (p ≡ marked source r.partial) × (report ≡ report_of bytes r stop))
      → GrewBy (ReadsGive source g) old new
  copy_gives None p report g is b k h = absurd b
  copy_gives (Some bytes) p report g is b k h =
      let copied = b ∙ not_text in
      let same : g ≡ given_by_copy source bytes h.0 stop = is ∙ (λ i. given_of (h.2 i) (Some (h.3 i))) in
      subst (λ (x : Given). GrewBy (ReadsGive source x) old new) (sym same)
      (given_so old new bytes stop (read_as_input bytes stop old new copied k) source (given_by_copy source bytes h.0 stop) refl
      (by_copy source bytes h.0 stop copied h.1))

  -- a copy without a frame
  pub copy_refused : (reader : Option (List ℕ)) (answer : InputFault)
      → IsSomeAnd reader (λ bytes. is_text bytes ≡ is_text first)
      → IsSomeAnd reader (λ bytes. GrewBy (λ reads. IsRead IsCopyDone reads bytes stop) old new)
      → IfSome reader (λ bytes. IsCopyRefused bytes stop answer) → GrewBy (ReadsRefuse answer) old new
  copy_refused None answer b k h = absurd b
  copy_refused (Some bytes) answer b k h =
      let copied = b ∙ not_text in
      subst (λ (x : InputFault). GrewBy (ReadsRefuse x) old new) (sym h.2)
      (refused_as_copy old new bytes stop copied (read_as_input bytes stop old new copied k) h.0 h.1)

-- ---- a copy that a station takes

-- what a copy's fault is taken for
taken_so : (f : CopyFault) (stop : ReadStop) (count : ℕ) → TakeFault
taken_so copy.OutOfMemory stop count = take.OutOfMemory
taken_so (copy.NoPicture f offset) Whole count = take.NoPicture f offset
taken_so (copy.NoPicture f offset) Failed count = take.Read Failed count
taken_so (copy.NoPicture f offset) Turns count = take.Read Turns count

-- the fault of a copy as an input is taken for this fault
is_taken_so : (f : CopyFault) (stop : ReadStop) (count : ℕ) → IsTakenFor (input_fault_of_copy f stop count) (taken_so f stop count)
unfolding taken_so
is_taken_so copy.OutOfMemory stop count = for_memory
is_taken_so (copy.NoPicture f offset) Whole count = no_frame f offset
is_taken_so (copy.NoPicture f offset) Failed count = unread Failed count
is_taken_so (copy.NoPicture f offset) Turns count = unread Turns count

-- a copy that was read is taken for something
pub is_taken : (Q : List ℕ → Type 0) (reader : Option (List ℕ)) (stop : ReadStop) (answer : InputFault) → IsSomeAnd reader Q
    → IfSome reader (λ bytes. IsCopyRefused bytes stop answer) → (taken : TakeFault) × IsTakenFor answer taken
is_taken Q None stop answer k h = absurd k
is_taken Q (Some bytes) stop answer k h = (
  taken_so h.0 stop (length bytes),
  subst (λ (x : InputFault). IsTakenFor x (taken_so h.0 stop (length bytes))) (sym h.2) (is_taken_so h.0 stop (length bytes)),
)

IsOfCopy : InputFault → Type 0
IsOfCopy (input.Text f) = ⊥
IsOfCopy _ = Unit {0}

-- a fault that is taken for one of a copy is of a copy
of_copy : (x : InputFault) (taken : TakeFault) → IsTakenFor x taken → IsOfCopy x
unfolding IsOfCopy
of_copy _ _ (no_frame f offset) = tt
of_copy _ _ (unread stop count) = tt
of_copy _ _ for_memory = tt

-- a text is taken for no fault of a copy
pub no_text_taken : (f : TextFault) (taken : TakeFault) → IsTakenFor (input.Text f) taken → ⊥
unfolding IsOfCopy
no_text_taken f taken h = of_copy (input.Text f) taken h

module _ (source : Option ℕ) (stop : ReadStop) (old new : History) where
  -- a copy that was read so far as its reading went gives what its reader gave
  pub whole_copy_gives : (reader : Option (List ℕ)) (p : PartialPicture) (report : CopyReport)
      → IsSomeAnd reader (λ bytes. GrewBy (λ reads. IsRead IsCopyDone reads bytes stop) old new)
      → IfSome reader (λ bytes. (r : ReadCopy) × CopyReads bytes r × (p ≡ marked source r.partial) × (report ≡ report_of bytes r stop))
      → GrewBy (CopyGives source p report) old new
  whole_copy_gives None p report k h = absurd k
  whole_copy_gives (Some bytes) p report k h =
      let stopped : report.stop ≡ stop = ap (λ (r : CopyReport). r.stop) h.3 in
      record {
        events = k.events;
        grew = k.grew;
        they_are = record {
          bytes = bytes;
          is_read = subst (λ (s : ReadStop). IsRead IsCopyDone k.events bytes s) (sym stopped) k.they_are;
          read = h.0;
          reads_as = h.1;
          partial_is = h.2;
          found_is = ap (λ (r : CopyReport). r.found) h.3;
        };
      }

  -- a copy that gives nothing stops the taking, for this fault
  stops_for : (bytes : List ℕ) (f : CopyFault) (how : ReadStop) (answer : TakeFault)
      → GrewBy (λ reads. IsRead IsCopyDone reads bytes how) old new → CopyGivesNone bytes f
      → IsTakenFor (input_fault_of_copy f how (length bytes)) answer → GrewBy (CopyStops answer) old new
  stops_for bytes copy.OutOfMemory how _ k h for_memory =
      grew_as (λ reads. IsRead IsCopyDone reads bytes how) (CopyStops take.OutOfMemory) old new
      (λ reads is. after_the_last bytes how reads is) k
  stops_for bytes (copy.NoPicture f offset) Whole _ k h (no_frame _ _) =
      grew_as (λ reads. IsRead IsCopyDone reads bytes Whole) (CopyStops (take.NoPicture f offset)) old new
      (λ reads is. no_picture bytes f offset reads is h) k
  stops_for bytes (copy.NoPicture f offset) Failed _ k h (unread _ _) =
      grew_as (λ reads. IsRead IsCopyDone reads bytes Failed) (CopyStops (take.Read Failed (length bytes))) old new
      (λ reads is. not_read bytes Failed f offset reads (λ t. absurd cc) is h) k
  stops_for bytes (copy.NoPicture f offset) Turns _ k h (unread _ _) =
      grew_as (λ reads. IsRead IsCopyDone reads bytes Turns) (CopyStops (take.Read Turns (length bytes))) old new
      (λ reads is. not_read bytes Turns f offset reads (λ t. absurd cc) is h) k

  -- a copy that is refused stops the taking, for the fault that it is taken for
  pub whole_copy_stops : (reader : Option (List ℕ)) (fault : InputFault) (answer : TakeFault)
      → IsSomeAnd reader (λ bytes. GrewBy (λ reads. IsRead IsCopyDone reads bytes stop) old new)
      → IfSome reader (λ bytes. IsCopyRefused bytes stop fault) → IsTakenFor fault answer → GrewBy (CopyStops answer) old new
  whole_copy_stops None fault answer k h is = absurd k
  whole_copy_stops (Some bytes) fault answer k h is =
      stops_for bytes h.0 stop answer k h.1 (subst (λ (x : InputFault). IsTakenFor x answer) h.2 is)
