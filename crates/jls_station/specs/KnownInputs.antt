-- Why an input is refused whose source has known bytes left, and how many of them were read of a copy.
use Rattle.std.specs.Prelude.{◌≡◌, ◌≤◌, ℕ, true, false, List, length, IfSome}
use Rattle.jls_copy.specs.CopyReads.{CopyGivesNone}
use Rattle.jls_copy.specs.declared.reader.CopyFault.TheVariants as copy
use Rattle.jls_station.specs.Given.{Given}
use Rattle.jls_station.specs.KnownCopies.{IsPrefixOf}
use Rattle.jls_station.specs.Texts.{is_text, IsNoText}
use Rattle.jls_station.specs.declared.input.ReadStop.TheVariants.{Whole}
use Rattle.jls_station.specs.declared.input.InputFault.{InputFault}
use Rattle.jls_station.specs.declared.input.InputFault.TheVariants as fault

-- an input of these bytes is refused for this. A bad text has the fault of all of them. A copy without a frame has the fault of what was
-- read of it as whole. If the reading stopped before, so many bytes were read of them. If memory ran out, nothing is said
abbrev pub RefusesInput : List ℕ → InputFault → Type 0
RefusesInput bytes (fault.Text f) = (is_text bytes ≡ true) × IsNoText bytes f
RefusesInput bytes (fault.NoPicture f offset) =
    (is_text bytes ≡ false) × (prefix : List ℕ) × IsPrefixOf bytes prefix Whole × CopyGivesNone prefix (copy.NoPicture f offset)
RefusesInput bytes (fault.Read stop count) =
    (prefix : List ℕ) × IsPrefixOf bytes prefix stop × (count ≡ length prefix) × (stop ≡ Whole → ⊥)
RefusesInput bytes fault.OutOfMemory = Unit {0}

-- of a copy no more bytes were read than these
abbrev pub CountsWithin : Given → List ℕ → Type 0
CountsWithin given bytes = IfSome given.copy (λ found. found.count ≤ length bytes)
