-- Why an input is refused whose source has known bytes left, and how many of them were read of a copy.
use Rattle.std.proofs.Common.{◌≡◌, ◌<◌, inr, ℕ, true, false, List, [], ◌++◌, Option, Some, None, length, refl, sym, subst, ap, ◌∙◌}
use Rattle.std.specs.Prelude.{IfSome, IsSomeAnd}
use Rattle.std.specs.Io.KnownBytes.{Consumes, IsAtEnd}
use Rattle.jls_marker.specs.declared.fault.MarkerFault.TheVariants as marker
use Rattle.jls_partial.specs.Partial.{PartialPicture}
use Rattle.jls_partial.specs.TextReading.{Fails, read_text}
use Rattle.jls_partial.specs.declared.text_fault.TextFault.{TextFault}
use Rattle.jls_partial.specs.declared.text_fault.TextFault.TheVariants as text_fault
use Rattle.jls_copy.specs.CopyReads.{CopyGivesNone}
use Rattle.jls_copy.specs.declared.reader.CopyFault.{CopyFault}
use Rattle.jls_copy.specs.declared.reader.CopyFault.TheVariants as copy
use Rattle.jls_station.specs.Forms.{IsCountedIn}
use Rattle.jls_station.specs.Given.{given_by_text}
use Rattle.jls_station.specs.InputFaults.{input_fault_of, input_fault_of_copy, IsCopyRefused}
use Rattle.jls_station.specs.KnownCopies.{IsPrefixOf}
use Rattle.jls_station.specs.KnownInputs.{CountsWithin, RefusesInput}
use Rattle.jls_station.specs.Texts.{is_text, IsNoText}
use Rattle.jls_station.specs.declared.input.ReadStop.{ReadStop}
use Rattle.jls_station.specs.declared.input.ReadStop.TheVariants.{Whole, Failed, Turns}
use Rattle.jls_station.specs.declared.input.InputForm.TheVariants.{Text}
use Rattle.jls_station.specs.declared.input.InputFault.{InputFault}
use Rattle.jls_station.specs.declared.input.InputFault.TheVariants as fault
use Rattle.jls_station.proofs.KnownCopies.{some_then}
use Rattle.jls_station.proofs.OneInput.{empty_gives_none, known_all, same_first}

-- of an input for which memory ran out nothing is said
pub input_ran_out : (o : Option (List ℕ)) → IfSome o (λ bytes. RefusesInput bytes fault.OutOfMemory)
input_ran_out None = tt
input_ran_out (Some bytes) = tt

-- ---- before the first byte

pub none_read : (o : Option (List ℕ)) → IfSome o (λ bytes. RefusesInput bytes (fault.Read Failed 0))
none_read None = tt
none_read (Some bytes) = ([], record { following = bytes; bytes_are = refl; enough = λ t. absurd cc }, refl, λ t. absurd cc)

none_there : RefusesInput [] (fault.NoPicture marker.Ended 0)
none_there = (refl, [], record { following = []; bytes_are = refl; enough = λ t. inr refl }, empty_gives_none)

-- an empty input is refused as a copy without a frame
pub empty_refused : (old new : Option (List ℕ)) → Consumes old new [] → IsAtEnd new
    → IfSome old (λ bytes. RefusesInput bytes (fault.NoPicture marker.Ended 0))
empty_refused old new h e =
    some_then old (λ known. known ≡ []) (λ bytes. RefusesInput bytes (fault.NoPicture marker.Ended 0))
    (λ bytes is. subst (λ (t : List ℕ). RefusesInput t (fault.NoPicture marker.Ended 0)) (sym is) none_there) (known_all old new [] h e)

-- ---- a text

-- one that was not read to its end
pub text_unread : (old new : Option (List ℕ)) (prefix : List ℕ) (stop : ReadStop) → (stop ≡ Whole → ⊥) → Consumes old new prefix
    → IfSome old (λ bytes. RefusesInput bytes (fault.Read stop (length prefix)))
text_unread None new prefix stop not h = tt
text_unread (Some bytes) None prefix stop not h = absurd h
text_unread (Some bytes) (Some left) prefix stop not h =
    (prefix, record { following = left; bytes_are = h; enough = λ is. absurd (not is) }, refl, not)

-- known bytes that are no text are refused for that fault
bad_so : (known bytes : List ℕ) → is_text bytes ≡ true → known ≡ bytes → (f : TextFault) → IsNoText bytes f
    → RefusesInput known (fault.Text f)
bad_so known bytes text is f h = subst (λ (t : List ℕ). RefusesInput t (fault.Text f)) (sym is) (text, h)

module _ (bytes : List ℕ) (text : is_text bytes ≡ true) where
  -- known bytes that are a text with a fault are refused for that fault
  bad_text : (known : List ℕ) → known ≡ bytes → (f : TextFault) → Fails f (read_text bytes) → RefusesInput known (input_fault_of f)
  bad_text known is (text_fault.Magic offset) e = bad_so known bytes text is (text_fault.Magic offset) e
  bad_text known is (text_fault.BadShape offset) e = bad_so known bytes text is (text_fault.BadShape offset) e
  bad_text known is (text_fault.Truncated offset) e = bad_so known bytes text is (text_fault.Truncated offset) e
  bad_text known is (text_fault.Place offset) e = bad_so known bytes text is (text_fault.Place offset) e
  bad_text known is (text_fault.Count offset) e = bad_so known bytes text is (text_fault.Count offset) e
  bad_text known is (text_fault.Order offset) e = bad_so known bytes text is (text_fault.Order offset) e
  bad_text known is (text_fault.Sample offset) e = bad_so known bytes text is (text_fault.Sample offset) e
  bad_text known is (text_fault.Trailing offset) e = bad_so known bytes text is (text_fault.Trailing offset) e
  bad_text known is text_fault.OutOfMemory e = tt

  -- one that was read to its end
  pub text_refused : (old : Option (List ℕ)) → IfSome old (λ known. known ≡ bytes) → (f : TextFault) → Fails f (read_text bytes)
      → IfSome old (λ known. RefusesInput known (input_fault_of f))
  text_refused old h f e =
      some_then old (λ known. known ≡ bytes) (λ known. RefusesInput known (input_fault_of f)) (λ known is. bad_text known is f e) h

-- ---- a copy

-- a prefix of known bytes that gives nothing refuses the input
copy_refused_so : (bytes prefix : List ℕ) (f : CopyFault) (stop : ReadStop) → is_text bytes ≡ false → IsPrefixOf bytes prefix stop
    → CopyGivesNone prefix f
    → RefusesInput bytes (input_fault_of_copy f stop (length prefix))
copy_refused_so bytes prefix copy.OutOfMemory stop copied k h = tt
copy_refused_so bytes prefix (copy.NoPicture f offset) Whole copied k h = (copied, prefix, k, h)
copy_refused_so bytes prefix (copy.NoPicture f offset) Failed copied k h = (prefix, k, refl, λ t. absurd cc)
copy_refused_so bytes prefix (copy.NoPicture f offset) Turns copied k h = (prefix, k, refl, λ t. absurd cc)

-- the first bytes that are consumed tell whether the input is a text
consumed_copy : (first left bytes : List ℕ) → is_text first ≡ false → 0 < length first → bytes ≡ first ++ left → is_text bytes ≡ false
consumed_copy first left bytes copied some is = ap is_text is ∙ same_first first left some ∙ copied

-- a copy of which nothing is taken is refused, in the words of the known bytes
pub known_input_stops : (first : List ℕ) (stop : ReadStop) (before left reader : Option (List ℕ)) (answer : InputFault)
    → is_text first ≡ false → 0 < length first → Consumes before left first
    → IsSomeAnd reader (λ prefix. IfSome before (λ bytes. IsPrefixOf bytes prefix stop))
    → IfSome reader (λ bytes. IsCopyRefused bytes stop answer)
    → IfSome before (λ bytes. RefusesInput bytes answer)
known_input_stops first stop before left None answer copied some c k h = absurd k
known_input_stops first stop None left (Some prefix) answer copied some c k h = tt
known_input_stops first stop (Some bytes) None (Some prefix) answer copied some c k h = absurd c
known_input_stops first stop (Some bytes) (Some left) (Some prefix) answer copied some c k h =
    subst (λ (x : InputFault). RefusesInput bytes x) (sym h.2)
    (copy_refused_so bytes prefix h.0 stop (consumed_copy first left bytes copied some c) k h.1)

-- ---- how many bytes were read of a copy

pub text_counted : (o : Option (List ℕ)) → IfSome o (IsCountedIn Text)
text_counted None = tt
text_counted (Some bytes) = tt

pub none_counted : (o : Option (List ℕ)) (p : PartialPicture) → IfSome o (CountsWithin (given_by_text p))
none_counted None p = tt
none_counted (Some bytes) p = tt
