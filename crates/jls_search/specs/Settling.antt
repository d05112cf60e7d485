-- What comes of the files taken.
use Rattle.std.specs.Prelude.{◌≡◌, ℕ, List, ◌++◌, Option, None}
use Rattle.jls_partial.specs.Partial.{nothing_known}
use Rattle.jls_search.specs.Files.{AreVerdicts}
use Rattle.jls_search.specs.Shapes.{IsShapeFound}
use Rattle.jls_search.specs.Stations.{TakesFiles}
use Rattle.jls_search.specs.declared.settling.Settled.{Settled}
use Rattle.jls_search.specs.declared.settling.Settled.TheVariants.{Held, Differ, NoFrame}
use Rattle.jls_search.specs.declared.shape_found.ShapeFound.TheVariants as found

-- What comes of copies and of the splices found: a station, or why no shape is found for them. The station has the shape that is found,
-- and took them all, each under the source if there is one
abbrev pub SettlesFiles : Option ℕ → List (List ℕ) → List (List ℕ) → Settled → Type 0
SettlesFiles source copies splices (Held taken) =
    IsShapeFound copies splices (found.Taken taken.station.shape)
    × TakesFiles source (copies ++ splices) (nothing_known taken.station.shape) taken.station
SettlesFiles source copies splices (Differ copy) = IsShapeFound copies splices (found.Differ copy)
SettlesFiles source copies splices (NoFrame fault offset) = IsShapeFound copies splices (found.NoFrame fault offset)

-- the verdict on each of these files comes with their station, if there is one
abbrev pub HasVerdicts : List (List ℕ) → Settled → Type 0
HasVerdicts files (Held taken) = AreVerdicts files taken.faultless.items
HasVerdicts files (Differ copy) = Unit {0}
HasVerdicts files (NoFrame fault offset) = Unit {0}

-- no cut file was taken with them
abbrev pub HasNoCut : Settled → Type 0
HasNoCut (Held taken) = taken.cut ≡ None
HasNoCut (Differ copy) = Unit {0}
HasNoCut (NoFrame fault offset) = Unit {0}
