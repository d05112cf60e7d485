-- Reads of one input, one after the other.
use Rattle.std.proofs.Common.{◌≡◌, ◌<◌, ◌≤◌, ℕ, zero, suc, ◌+◌, get_or, take, true, false, List, [], ◌∷◌, ◌++◌, Option, Some, None}
use Rattle.std.proofs.Common.{length, refl, sym, subst, ap, ◌∙◌, append_assoc, arith}
use Rattle.std.proofs.lemmas.Bool.{false≢true}
use Rattle.std.proofs.lemmas.List.{append-nil, length-append}
use Rattle.std.specs.Prelude.{IfSome}
use Rattle.std.specs.Io.KnownBytes.{Consumes, IsAtEnd}
use Rattle.jls_bits.proofs.Appending.{bytes_append}
use Rattle.jls_marker.specs.declared.fault.MarkerFault.TheVariants as marker
use Rattle.jls_partial.specs.Partial.{PartialPicture}
use Rattle.jls_partial.specs.TextReading.{Fails, read_text}
use Rattle.jls_partial.specs.declared.text_fault.TextFault.{TextFault}
use Rattle.jls_partial.specs.declared.text_fault.TextFault.TheVariants as text_fault
use Rattle.jls_copy.specs.CopyReads.{CopyGivesNone, is_final_end}
use Rattle.jls_copy.specs.Course.{Course, without_units, with_fill_alone}
use Rattle.jls_copy.specs.CourseLaws.{OneCourse}
use Rattle.jls_copy.specs.declared.end.End.TheVariants.{Header}
use Rattle.jls_copy.specs.declared.reader.CopyFault.{CopyFault}
use Rattle.jls_copy.specs.declared.reader.CopyFault.TheVariants as copy
use Rattle.jls_io.specs.Event.{Event, History, GrewBy, gave, read_failed}
use Rattle.jls_io.specs.Event.{bytes_given}
use Rattle.jls_io.proofs.Growing.{grew_as, grew_twice}
use Rattle.jls_station.specs.Forms.{IsForm}
use Rattle.jls_station.specs.Given.{Given, Gives, by_text, given_by_text}
use Rattle.jls_station.specs.Inputs.{IsCopyDone, IsEnough, IsRefused, no_text, no_picture, copy_not_read, between_reads, after_the_last}
use Rattle.jls_station.specs.Inputs.{ReadsGive, ReadsRefuse, for_fault, for_memory}
use Rattle.jls_station.specs.Reading.{GoesOn, StopsWith, IsRead, IsReadInPart, ReadSoFar}
use Rattle.jls_station.specs.Texts.{is_text, IsTextOf, IsNoText}
use Rattle.jls_station.specs.InputFaults.{input_fault_of, input_fault_of_copy}
use Rattle.jls_station.specs.declared.input.ReadStop.{ReadStop}
use Rattle.jls_station.specs.declared.input.ReadStop.TheVariants.{Whole, Failed, Turns}
use Rattle.jls_station.specs.declared.input.InputFault.{InputFault}
use Rattle.jls_station.specs.declared.input.InputForm.TheVariants.{Text}
use Rattle.jls_station.specs.declared.input.InputFault.TheVariants as fault
use Rattle.jls_marker.specs.SegmentLaws.{AreBytes}

-- ---- bytes

-- the first n of some bytes are bytes
bytes_prefix : (n : ℕ) (xs : List ℕ) → AreBytes xs → AreBytes (take n xs)
bytes_prefix zero xs h = tt
bytes_prefix (suc n) [] h = tt
bytes_prefix (suc n) (x ∷ xs) h = (h.0, bytes_prefix n xs h.1)

bytes_each : (xs : List ℕ) → ((k : ℕ) → get_or xs k 0 < 256) → AreBytes xs
bytes_each [] h = tt
bytes_each (x ∷ xs) h = (h 0, bytes_each xs (λ k. h (suc k)))

-- the prefix of a buffer
pub prefix_of_buffer : (n : ℕ) (xs : List ℕ) → ((k : ℕ) → get_or xs k 0 < 256) → AreBytes (take n xs)
prefix_of_buffer n xs h = bytes_prefix n xs (bytes_each xs h)

-- ---- reads of an input, as long as its bytes are not enough

module _ (E : List ℕ → Type 0) where
  -- one read more that gave some
  goes_on_more : (fed : List ℕ) (reads : List Event) (room : ℕ) (bytes : List ℕ) → GoesOn E fed reads → room ≤ 4096 → 0 < length bytes
      → ((t : List ℕ) → t ≡ fed ++ bytes_given reads → E t → ⊥)
      → GoesOn E fed (reads ++ gave room bytes ∷ []) × (bytes_given (reads ++ gave room bytes ∷ []) ≡ bytes_given reads ++ bytes)
  goes_on_more fed [] room bytes h fits some not = ((fits, some, not fed (sym (append-nil fed)), tt), append-nil bytes)
  goes_on_more fed (gave r b ∷ reads) room bytes h fits some not =
      let more = goes_on_more (fed ++ b) reads room bytes h.3 fits some (λ t e. not t (e ∙ append_assoc fed b (bytes_given reads))) in
      ((h.0, h.1, h.2, more.0), ap (λ (x : List ℕ). b ++ x) more.1 ∙ sym (append_assoc b (bytes_given reads) bytes))
  goes_on_more fed (e ∷ reads) room bytes h fits some not = absurd h

  -- all reads, the last of which gave nothing, or failed, or was not made
  read_with : (count : ℕ) (bytes : List ℕ) (on last : List Event) (stop : ReadStop) → ReadSoFar E count bytes on
      → StopsWith E bytes last stop
      → count + length last ≤ 4294967295 → (stop ≡ Turns → count + length last ≡ 4294967295) → IsRead E (on ++ last) bytes stop
  read_with count bytes on last stop h s at_most used_up =
      let n = length-append on last in
      record {
        on = on;
        last = last;
        reads_are = refl;
        goes_on = h.goes_on;
        bytes_are = h.bytes_are;
        are_bytes = h.are_bytes;
        stops = s;
        at_most = omega (arith, n, h.number, at_most);
        used_up = λ e. let u = used_up e in omega (arith, n, h.number, u);
      }

  module _ (count : ℕ) (old mid new : History) (bytes : List ℕ) where
    pub nothing_read : GrewBy (ReadSoFar E 0 []) old old
    nothing_read = record {
      events = [];
      grew = sym (append-nil old);
      they_are =
          record { goes_on = tt; bytes_are = refl; are_bytes = tt; number = refl };
    }

    pub one_read_more : (room : ℕ) (more : List ℕ) → GrewBy (ReadSoFar E count bytes) old mid → new ≡ mid ++ gave room more ∷ []
        → (E bytes → ⊥) → room ≤ 4096
        → 0 < length more → AreBytes more → GrewBy (ReadSoFar E (count + 1) (bytes ++ more)) old new
    one_read_more room more h e not fits some low =
        let is = h.they_are.bytes_are in
        let on = goes_on_more [] h.events room more h.they_are.goes_on fits some (λ t same enough. not (subst E (same ∙ sym is) enough)) in
        record {
          events = h.events ++ gave room more ∷ [];
          grew = grew_twice old mid new h.events (gave room more ∷ []) h.grew e;
          they_are = record {
            goes_on = on.0;
            bytes_are = ap (λ (b : List ℕ). b ++ more) is ∙ sym on.1;
            are_bytes = bytes_append bytes more h.they_are.are_bytes low;
            number = omega (arith, length-append h.events (gave room more ∷ []), h.they_are.number);
          };
        }

    -- the end was met
    pub read_to_end : (room : ℕ) (none : List ℕ) → GrewBy (ReadSoFar E count bytes) old mid → new ≡ mid ++ gave room none ∷ [] → none ≡ []
        → (E bytes → ⊥)
        → 0 < room → room ≤ 4096 → count < 4294967295 → GrewBy (λ reads. IsRead E reads bytes Whole) old new
    read_to_end room none h e is not some fits lt = record {
      events = h.events ++ gave room [] ∷ [];
      grew = grew_twice old mid new h.events (gave room [] ∷ []) h.grew (subst (λ (b : List ℕ). new ≡ mid ++ gave room b ∷ []) is e);
      they_are = read_with count bytes h.events (gave room [] ∷ []) Whole h.they_are (some, fits, not) (omega (arith, lt)) (λ t. absurd cc);
    }

    -- a read failed
    pub read_to_failure : GrewBy (ReadSoFar E count bytes) old mid → new ≡ mid ++ read_failed ∷ [] → (E bytes → ⊥) → count < 4294967295
        → GrewBy (λ reads. IsRead E reads bytes Failed) old new
    read_to_failure h e not lt = record {
      events = h.events ++ read_failed ∷ [];
      grew = grew_twice old mid new h.events (read_failed ∷ []) h.grew e;
      they_are = read_with count bytes h.events (read_failed ∷ []) Failed h.they_are not (omega (arith, lt)) (λ t. absurd cc);
    }

    -- the last turn was made
    pub read_to_turns : GrewBy (ReadSoFar E count bytes) old mid → (E bytes → ⊥) → count ≡ 4294967295
        → GrewBy (λ reads. IsRead E reads bytes Turns) old mid
    read_to_turns h not is = record {
      events = h.events;
      grew = h.grew;
      they_are = subst (λ (reads : List Event). IsRead E reads bytes Turns) (append-nil h.events)
          (read_with count bytes h.events [] Turns h.they_are not (omega (arith, is)) (λ t. omega (arith, is)));
    }

    -- the bytes are enough
    pub read_enough : GrewBy (ReadSoFar E count bytes) old mid → E bytes → count ≤ 4294967295
        → GrewBy (λ reads. IsRead E reads bytes Whole) old mid
    read_enough h enough le = record {
      events = h.events;
      grew = h.grew;
      they_are = subst (λ (reads : List Event). IsRead E reads bytes Whole) (append-nil h.events)
          (read_with count bytes h.events [] Whole h.they_are enough (omega (arith, le)) (λ t. absurd cc));
    }

    -- memory ran out
    pub read_in_part : GrewBy (ReadSoFar E count bytes) old mid → count ≤ 4294967295 → GrewBy (IsReadInPart E) old mid
    read_in_part h le = record { events = h.events; grew = h.grew; they_are = (h.they_are.goes_on, omega (arith, le, h.they_are.number)) }

-- ---- a text

pub never_enough : (bytes : List ℕ) → is_text bytes ≡ true → IsEnough bytes → ⊥
never_enough bytes h e = false≢true (sym e.0 ∙ h)

pub same_first : (bytes more : List ℕ) → 0 < length bytes → is_text (bytes ++ more) ≡ is_text bytes
same_first [] more h = absurd (omega (arith, h))
same_first (b ∷ bytes) more h = refl

-- ---- a copy

-- reads that go on for a copy go on for an input
goes_on_enough : (fed : List ℕ) (reads : List Event) → GoesOn IsCopyDone fed reads → GoesOn IsEnough fed reads
goes_on_enough fed [] h = tt
goes_on_enough fed (gave r b ∷ reads) h = (h.0, h.1, λ e. h.2 e.1, goes_on_enough (fed ++ b) reads h.3)
goes_on_enough fed (e ∷ reads) h = absurd h

-- where a copy's reading stops, that of an input that is no text does
stops_enough : (bytes : List ℕ) (last : List Event) (stop : ReadStop) → is_text bytes ≡ false → StopsWith IsCopyDone bytes last stop
    → StopsWith IsEnough bytes last stop
stops_enough bytes [] Whole copied h = (copied, h)
stops_enough bytes [] Turns copied h = λ e. h e.1
stops_enough bytes (gave room [] ∷ []) Whole copied h = (h.0, h.1, λ e. h.2 e.1)
stops_enough bytes (read_failed ∷ []) Failed copied h = λ e. h e.1
stops_enough bytes last stop copied h = absurd h

-- the reads of an input that is a copy are those of the copy
pub read_as_input : (bytes : List ℕ) (stop : ReadStop) (old new : History) → is_text bytes ≡ false
    → GrewBy (λ reads. IsRead IsCopyDone reads bytes stop) old new
    → GrewBy (λ reads. IsRead IsEnough reads bytes stop) old new
read_as_input bytes stop old new copied =
    grew_as (λ reads. IsRead IsCopyDone reads bytes stop) (λ reads. IsRead IsEnough reads bytes stop) old new
    (λ reads h. record {
      on = h.on;
      last = h.last;
      reads_are = h.reads_are;
      goes_on = goes_on_enough [] h.on h.goes_on;
      bytes_are = h.bytes_are;
      are_bytes = h.are_bytes;
      stops = stops_enough bytes h.last stop copied h.stops;
      at_most = h.at_most;
      used_up = h.used_up;
    })

pub part_of_input : (old new : History) → GrewBy (IsReadInPart IsCopyDone) old new → GrewBy (IsReadInPart IsEnough) old new
part_of_input old new = grew_as (IsReadInPart IsCopyDone) (IsReadInPart IsEnough) old new (λ reads h. (goes_on_enough [] reads h.0, h.1))

-- ---- known bytes

pub consumes_nothing : (o : Option (List ℕ)) → Consumes o o []
consumes_nothing None = tt
consumes_nothing (Some xs) = refl

-- some bytes that were taken from a source, and then others, are all of them
pub consumes_on : (old mid new : Option (List ℕ)) (a b : List ℕ) → Consumes old mid a → Consumes mid new b → Consumes old new (a ++ b)
consumes_on None mid new a b h k = tt
consumes_on (Some xs) None new a b h k = absurd h
consumes_on (Some xs) (Some ys) None a b h k = k
consumes_on (Some xs) (Some ys) (Some zs) a b h k = h ∙ (ap (λ (t : List ℕ). a ++ t) k ∙ sym (append_assoc a b zs))

-- ---- what the bytes of one input are

module _ (old new : History) where
  -- reads of part of an input can end in the refusal for want of memory
  pub out_of_memory_in_part : GrewBy (IsReadInPart IsEnough) old new → GrewBy (ReadsRefuse fault.OutOfMemory) old new
  out_of_memory_in_part = grew_as (IsReadInPart IsEnough) (ReadsRefuse fault.OutOfMemory) old new
      (λ reads h. for_memory reads (between_reads reads h))

  module _ (bytes : List ℕ) (stop : ReadStop) (h : GrewBy (λ reads. IsRead IsEnough reads bytes stop) old new) where
    pub refused_for : (f : InputFault) → IsRefused bytes stop f → GrewBy (ReadsRefuse f) old new
    refused_for f is = record { events = h.events; grew = h.grew; they_are = for_fault f bytes stop h.events h.they_are is }

    pub out_of_memory_after : (is_text bytes ≡ true → stop ≡ Whole) → GrewBy (ReadsRefuse fault.OutOfMemory) old new
    out_of_memory_after is = record {
      events = h.events;
      grew = h.grew;
      they_are =
          for_memory h.events (after_the_last bytes stop h.events h.they_are is);
    }

    pub given_so : (source : Option ℕ) (g : Given) → g.stop ≡ stop → Gives source bytes g → GrewBy (ReadsGive source g) old new
    given_so source g is gives = record {
      events = h.events;
      grew = h.grew;
      they_are = record {
        bytes = bytes;
        is_read = subst (λ (s : ReadStop). IsRead IsEnough h.events bytes s) (sym is) h.they_are;
        gives =
            gives;
      };
    }

-- where the bytes of a source are known, they are those that were read to its end
pub known_all : (old new : Option (List ℕ)) (bytes : List ℕ) → Consumes old new bytes → IsAtEnd new → IfSome old (λ known. known ≡ bytes)
known_all None new bytes h e = tt
known_all (Some xs) None bytes h e = absurd h
known_all (Some xs) (Some ys) bytes h e = h ∙ (ap (λ (t : List ℕ). bytes ++ t) e ∙ append-nil bytes)

-- a text that was read is that of the known bytes
pub known_text : (old : Option (List ℕ)) (bytes : List ℕ) (p : PartialPicture) → IfSome old (λ known. known ≡ bytes) → IsTextOf bytes p
    → IfSome old (λ known. IsTextOf known p)
known_text None bytes p h is = tt
known_text (Some xs) bytes p h is = subst (λ (t : List ℕ). IsTextOf t p) (sym h) is

-- the fault of a text that a function answers, as the fault of an input
module _ (old new : History) (bytes : List ℕ) (text : is_text bytes ≡ true)
    (h : GrewBy (λ reads. IsRead IsEnough reads bytes Whole) old new) where
  refused_as_text : (f : TextFault) → IsNoText bytes f → GrewBy (ReadsRefuse (fault.Text f)) old new
  refused_as_text f fails = refused_for old new bytes Whole h (fault.Text f) (no_text bytes f text fails)

  -- an input that is a text with a fault is refused for that fault
  pub refused_by : (f : TextFault) → Fails f (read_text bytes) → GrewBy (ReadsRefuse (input_fault_of f)) old new
  refused_by (text_fault.Magic offset) e = refused_as_text (text_fault.Magic offset) e
  refused_by (text_fault.BadShape offset) e = refused_as_text (text_fault.BadShape offset) e
  refused_by (text_fault.Truncated offset) e = refused_as_text (text_fault.Truncated offset) e
  refused_by (text_fault.Place offset) e = refused_as_text (text_fault.Place offset) e
  refused_by (text_fault.Count offset) e = refused_as_text (text_fault.Count offset) e
  refused_by (text_fault.Order offset) e = refused_as_text (text_fault.Order offset) e
  refused_by (text_fault.Sample offset) e = refused_as_text (text_fault.Sample offset) e
  refused_by (text_fault.Trailing offset) e = refused_as_text (text_fault.Trailing offset) e
  refused_by text_fault.OutOfMemory e = out_of_memory_after old new bytes Whole h (λ _. refl)

-- the fault of a copy, likewise
pub refused_as_copy : (old new : History) (bytes : List ℕ) (stop : ReadStop) → is_text bytes ≡ false
    → GrewBy (λ reads. IsRead IsEnough reads bytes stop) old new
    → (f : CopyFault) → CopyGivesNone bytes f → GrewBy (ReadsRefuse (input_fault_of_copy f stop (length bytes))) old new
refused_as_copy old new bytes stop copied h copy.OutOfMemory e =
    out_of_memory_after old new bytes stop h (λ is. absurd (false≢true (sym copied ∙ is)))
refused_as_copy old new bytes Whole copied h (copy.NoPicture f offset) e =
    refused_for old new bytes Whole h (fault.NoPicture f offset) (no_picture bytes f offset copied e)
refused_as_copy old new bytes Failed copied h (copy.NoPicture f offset) e =
    refused_for old new bytes Failed h (fault.Read Failed (length bytes)) (copy_not_read bytes Failed f offset copied (λ t. absurd cc) e)
refused_as_copy old new bytes Turns copied h (copy.NoPicture f offset) e =
    refused_for old new bytes Turns h (fault.Read Turns (length bytes)) (copy_not_read bytes Turns f offset copied (λ t. absurd cc) e)

-- the empty input has no frame, and more bytes can change that
pub empty_gives_none : CopyGivesNone [] (copy.NoPicture marker.Ended 0)
empty_gives_none = (without_units 0 (Header marker.Ended 0), with_fill_alone 0, refl, refl)

-- no byte is not enough for a copy
pub empty_goes_on : OneCourse → IsCopyDone [] → ⊥
empty_goes_on one done =
    false≢true (ap (λ (c : Course). is_final_end c.end) (one [] (without_units 0 (Header marker.Ended 0)) done.0 (with_fill_alone 0) done.1)
    ∙ sym done.2)

-- each fault of a text but want of memory is the input's fault of a text
pub other_input_fault : (f : TextFault) → (f ≡ text_fault.OutOfMemory → ⊥) → input_fault_of f ≡ fault.Text f
other_input_fault (text_fault.Magic offset) other = refl
other_input_fault (text_fault.BadShape offset) other = refl
other_input_fault (text_fault.Truncated offset) other = refl
other_input_fault (text_fault.Place offset) other = refl
other_input_fault (text_fault.Count offset) other = refl
other_input_fault (text_fault.Order offset) other = refl
other_input_fault (text_fault.Sample offset) other = refl
other_input_fault (text_fault.Trailing offset) other = refl
other_input_fault text_fault.OutOfMemory other = absurd (other refl)

-- ---- a text that was read

module _ (source : Option ℕ) (old new : History) (bytes : List ℕ) (h : GrewBy (IsForm source bytes Text) old new) where
  pub all_read : GrewBy (λ reads. IsRead IsEnough reads bytes Whole) old new
  all_read = grew_as (IsForm source bytes Text) (λ reads. IsRead IsEnough reads bytes Whole) old new (λ reads f. f.0) h

  pub text_gives : (p : PartialPicture) → IsTextOf bytes p → GrewBy (ReadsGive source (given_by_text p)) old new
  text_gives p is = given_so old new bytes Whole all_read source (given_by_text p) refl (by_text source bytes p is)
