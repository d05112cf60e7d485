-- Why the picture of a station wasn't written whole.
use Rattle.std.specs.Prelude.{◌≡◌, ℕ, List, Option}
use Rattle.jls_io.specs.Event.{History}
use Rattle.jls_callers.specs.declared.writing.StationFault.{StationFault}
use Rattle.jls_callers.specs.declared.writing.StationFault.TheVariants.{Unsettled, Unfit, Output}

-- the fault shows before the sink is used: a line isn't settled, or the options don't fit
abbrev pub IsBeforeWriting : StationFault → Type 0
IsBeforeWriting (Unsettled fault) = Unit {0}
IsBeforeWriting Unfit = Unit {0}
IsBeforeWriting (Output fault) = ⊥

-- the sink did nothing, and contains what it contained
pub record IsUntouched (old new : History) (held holds : Option (List ℕ)) : Type 0 where
  pub did_nothing : new ≡ old
  pub contains_the_same : holds ≡ held
