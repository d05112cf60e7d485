-- The copies that a run reads.
use Rattle.std.specs.Prelude.{◌≡◌, ℕ, List, map}
use Rattle.std.specs.List.{AllByRecursion}
use Rattle.jls_io.specs.Event.{Event}
use Rattle.jls_station.specs.declared.input.ReadStop.{ReadStop}
use Rattle.jls_station.specs.declared.input.ReadStop.TheVariants.{Whole}
use Rattle.jls_station.specs.CopyFiles.{CopyBytes, StopsAmongCopies}
use Rattle.jls_station.specs.declared.copy.CopyCause.{CopyCause}
use Rattle.jls_station.specs.declared.copy.CopyCause.TheVariants as copy
use Rattle.jls_station.specs.declared.copy.CopyRefusal.{CopyRefusal}
use Rattle.jls_cli.specs.declared.outcome.Cause.{Cause}
use Rattle.jls_cli.specs.declared.outcome.Cause.TheVariants as cause
use Rattle.jls_cli.specs.declared.outcome.Refusal.{Refusal}

-- the bytes of each copy
abbrev pub bytes_read : List CopyBytes → List (List ℕ)
bytes_read copies = map (λ copy. copy.bytes) copies

-- how the reading of each stopped
abbrev pub stops_read : List CopyBytes → List ReadStop
stops_read copies = map (λ copy. copy.stop) copies

-- each copy was read to its end
abbrev pub AreWhole : List CopyBytes → Type 0
AreWhole copies = AllByRecursion (λ copy. copy.stop ≡ Whole) copies

-- the cause for a copy that stops a run
abbrev pub cause_of : CopyCause → Cause
cause_of copy.NotOpened = cause.NotOpened
cause_of copy.PartialPicture = cause.PartialPicture
cause_of copy.OutOfMemory = cause.OutOfMemory

-- a copy among these names stops a run: the refusal has its name and says why
pub record StopsAtCopies (names : List (List ℕ)) (r : Refusal) (events : List Event) : Type 0 where
  pub refusal : CopyRefusal
  pub stops : StopsAmongCopies names refusal events
  pub name_is : r.name.now ≡ refusal.name.now
  pub cause_is : r.cause ≡ cause_of refusal.cause
