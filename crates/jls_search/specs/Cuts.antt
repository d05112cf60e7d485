-- What is taken of a cut file: what choices make of the first parts, read as a file that ends there.
use Rattle.std.specs.Prelude.{ℕ, List, [], ◌∷◌, ◌++◌, Option, ◌⊎◌}
use Rattle.std.specs.List.{Contains}
use Rattle.jls_partial.specs.Partial.{PartialPicture, nothing_known}
use Rattle.jls_search.specs.Faultless.{IsFaultless}
use Rattle.jls_search.specs.Shapes.{HasNoFrame, HasFrameOfShape, NoneIsFaultless}
use Rattle.jls_search.specs.Stations.{TakesFiles}

-- a station of the cut file's shape took the copies, the splices and then the cut file, each under the source if there is one. None of the
-- copies and splices is without a fault
pub record TakesCut (source : Option ℕ) (copies splices : List (List ℕ)) (cut : List ℕ) (station : PartialPicture) : Type 0 where
  pub none_faultless : NoneIsFaultless (copies ++ splices)
  pub shape_is : HasFrameOfShape station.shape cut
  pub takes : TakesFiles source ((copies ++ splices) ++ cut ∷ []) (nothing_known station.shape) station

-- why none does: some file of the copies and splices has no fault, or the cut file has no frame
abbrev pub TakesNoCut : List (List ℕ) → List (List ℕ) → List ℕ → Type 0
TakesNoCut copies splices cut =
    ((file : List ℕ) × Contains (copies ++ splices) file × IsFaultless file) ⊎ HasNoFrame cut
