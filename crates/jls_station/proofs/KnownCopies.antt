-- What comes of a copy whose source has known bytes left.
use Rattle.std.proofs.Common.{◌≡◌, ◌≤◌, ℕ, List, ◌++◌, Option, Some, None, length, refl, sym, subst, ap, arith}
use Rattle.std.proofs.lemmas.List.{length-append}
use Rattle.std.specs.Prelude.{IfSome, IsSomeAnd}
use Rattle.jls_partial.specs.Partial.{PartialPicture}
use Rattle.jls_copy.specs.CopyReads.{CopyReads, CopyGivesNone}
use Rattle.jls_copy.specs.ReadCopy.{ReadCopy}
use Rattle.jls_copy.specs.declared.reader.CopyFault.{CopyFault}
use Rattle.jls_copy.specs.declared.reader.CopyFault.TheVariants as copy
use Rattle.jls_station.specs.Given.{CopyReport, marked, report_of}
use Rattle.jls_station.specs.InputFaults.{input_fault_of_copy, IsCopyRefused}
use Rattle.jls_station.specs.KnownCopies.{IsPrefixOf, BytesGive, RefusesBytes}
use Rattle.jls_station.specs.TakingCopies.{IsTakenFor, no_frame, unread, for_memory}
use Rattle.jls_station.specs.declared.input.ReadStop.{ReadStop}
use Rattle.jls_station.specs.declared.input.ReadStop.TheVariants.{Whole, Failed, Turns}
use Rattle.jls_station.specs.declared.input.InputFault.{InputFault}
use Rattle.jls_station.specs.declared.take_copy.TakeFault.{TakeFault}
use Rattle.jls_station.specs.declared.take_copy.TakeFault.TheVariants as take

-- what follows for known bytes follows where there are any
pub some_then : (o : Option (List ℕ)) (P Q : List ℕ → Type 0) → ((bytes : List ℕ) → P bytes → Q bytes) → IfSome o P → IfSome o Q
some_then None P Q f h = tt
some_then (Some bytes) P Q f h = f bytes h

module _ (source : Option ℕ) (stop : ReadStop) where
  -- what a copy gives, in the words of the known bytes of its source
  pub known_copy_gives : (before reader : Option (List ℕ)) (p : PartialPicture) (report : CopyReport)
      → IsSomeAnd reader (λ prefix. IfSome before (λ bytes. IsPrefixOf bytes prefix stop))
      → IfSome reader (λ bytes. (r : ReadCopy) × CopyReads bytes r × (p ≡ marked source r.partial) × (report ≡ report_of bytes r stop))
      → IfSome before (BytesGive source p report.stop)
  known_copy_gives before None p report k h = absurd k
  known_copy_gives None (Some prefix) p report k h = tt
  known_copy_gives (Some bytes) (Some prefix) p report k h =
      let stopped : report.stop ≡ stop = ap (λ (r : CopyReport). r.stop) h.3 in
      record {
        prefix = prefix;
        is_prefix = subst (λ (s : ReadStop). IsPrefixOf bytes prefix s) (sym stopped) k;
        read = h.0;
        reads_as = h.1;
        partial_is = h.2;
      }

  -- the report of a copy counts no more bytes than its source has
  pub known_copy_count : (before reader : Option (List ℕ)) (p : PartialPicture) (report : CopyReport)
      → IsSomeAnd reader (λ prefix. IfSome before (λ bytes. IsPrefixOf bytes prefix stop))
      → IfSome reader (λ bytes. (r : ReadCopy) × CopyReads bytes r × (p ≡ marked source r.partial) × (report ≡ report_of bytes r stop))
      → IfSome before (λ bytes. report.found.count ≤ length bytes)
  known_copy_count before None p report k h = absurd k
  known_copy_count None (Some prefix) p report k h = tt
  known_copy_count (Some bytes) (Some prefix) p report k h =
      let counted : report.found.count ≡ length prefix = ap (λ (r : CopyReport). r.found.count) h.3 in
      let all : length bytes ≡ length (prefix ++ k.following) = ap length k.bytes_are in
      omega (arith, counted, all, length-append prefix k.following)

module _ (source : Option ℕ) (held : PartialPicture) where
  -- of a copy for which memory ran out nothing is said
  pub ran_out : (o : Option (List ℕ)) → IfSome o (λ bytes. RefusesBytes source held bytes take.OutOfMemory)
  ran_out None = tt
  ran_out (Some bytes) = tt

  -- a prefix of known bytes that gives nothing refuses them
  refused_so : (bytes prefix : List ℕ) (f : CopyFault) (stop : ReadStop) (answer : TakeFault) → IsPrefixOf bytes prefix stop
      → CopyGivesNone prefix f
      → IsTakenFor (input_fault_of_copy f stop (length prefix)) answer → RefusesBytes source held bytes answer
  refused_so bytes prefix copy.OutOfMemory stop _ k h for_memory = tt
  refused_so bytes prefix (copy.NoPicture f offset) Whole _ k h (no_frame _ _) = (prefix, k, h)
  refused_so bytes prefix (copy.NoPicture f offset) Failed _ k h (unread _ _) = (prefix, k, refl, λ t. absurd cc)
  refused_so bytes prefix (copy.NoPicture f offset) Turns _ k h (unread _ _) = (prefix, k, refl, λ t. absurd cc)

  -- a copy that is refused, in the words of the known bytes of its source
  pub known_copy_stops : (stop : ReadStop) (before reader : Option (List ℕ)) (fault : InputFault) (answer : TakeFault)
      → IsSomeAnd reader (λ prefix. IfSome before (λ bytes. IsPrefixOf bytes prefix stop))
      → IfSome reader (λ bytes. IsCopyRefused bytes stop fault) → IsTakenFor fault answer
      → IfSome before (λ bytes. RefusesBytes source held bytes answer)
  known_copy_stops stop before None fault answer k h is = absurd k
  known_copy_stops stop None (Some prefix) fault answer k h is = tt
  known_copy_stops stop (Some bytes) (Some prefix) fault answer k h is =
      refused_so bytes prefix h.0 stop answer k h.1 (subst (λ (x : InputFault). IsTakenFor x answer) h.2 is)
