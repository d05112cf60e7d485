-- The files that are taken of some copies and their splices.
use Rattle.std.specs.Prelude.{ℕ, ◌<◌, Bool, List, [], ◌∷◌, ◌++◌, length, Option}
use Rattle.std.specs.List.{AllByRecursion}
use Rattle.jls_values.specs.Shape.{PictureShape}
use Rattle.jls_diff.specs.Parts.{Part, AreParts, IsSplice}
use Rattle.jls_search.specs.Faultless.{IsSought}
use Rattle.jls_search.specs.Search.{HasEachSplice, CameTo, files_of}
use Rattle.jls_search.specs.Shapes.{HasFrameOfShape, IsShapeTaken}

-- Shapes -----------------------------------------------------------------------------------------------------------

-- those of some files that have a shape, in order
pub data AreFilesOfShape (shape : PictureShape) : List (List ℕ) → List (List ℕ) → Type 0 where
  none_left : AreFilesOfShape shape [] []
  taken : (file : List ℕ) (files more : List (List ℕ)) → HasFrameOfShape shape file → AreFilesOfShape shape files more
      → AreFilesOfShape shape (file ∷ files) (file ∷ more)
  passed_over : (file : List ℕ) (files more : List (List ℕ)) → (HasFrameOfShape shape file → ⊥) → AreFilesOfShape shape files more
      → AreFilesOfShape shape (file ∷ files) more

-- Files ------------------------------------------------------------------------------------------------------------

-- the files taken of copies with these parts: of the copies, and of splices of them that a search found, those of the shape that is
-- taken
pub record FilesTaken (copies : List (List ℕ)) (parts : List Part) (shape : PictureShape) (files : List (List ℕ)) : Type 0 where
  pub are_parts : AreParts copies parts
  pub found : List (List ℕ)
  pub are_splices : AllByRecursion (IsSplice (length copies) parts) found
  pub shape_is : IsShapeTaken copies found shape
  pub of_shape : AreFilesOfShape shape (copies ++ found) files

-- the files taken, if the search found each splice that is sought under its ceiling: its tries were enough
pub record AllTaken (ceiling : Option ℕ) (copies : List (List ℕ)) (parts : List Part) (shape : PictureShape) (files : List (List ℕ))
    : Type 0 where
  pub files_taken : FilesTaken copies parts shape files
  pub each : HasEachSplice (IsSought ceiling) parts files_taken.found

-- the files taken, if what was found is what `search` came to over the copies, under this ceiling
pub record SearchTaken (ceiling : Option ℕ) (copies : List (List ℕ)) (parts : List Part) (found : List (List ℕ)) (is_used_up : Bool)
    (shape : PictureShape) (files : List (List ℕ)) : Type 0 where
  pub some_copy : 0 < length copies
  pub are_parts : AreParts copies parts
  pub came_to : CameTo (IsSought ceiling) parts found is_used_up
  pub shape_is : IsShapeTaken copies (files_of parts found) shape
  pub of_shape : AreFilesOfShape shape (copies ++ files_of parts found) files
