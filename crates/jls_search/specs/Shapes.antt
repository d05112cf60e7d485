-- The shape of the files taken, which are read under the wide profile.
use Rattle.std.specs.Prelude.{◌≡◌, ℕ, ◌<◌, List, [], ◌∷◌, ◌++◌, length, get_or, Some, None, ◌⊎◌}
use Rattle.std.specs.List.{AllByRecursion, Contains}
use Rattle.jls_values.specs.Shape.{PictureShape}
use Rattle.jls_copy.specs.Course.{Course, IsCourseUnder}
use Rattle.jls_copy.specs.CopyReads.{CopyGivesNoneUnder}
use Rattle.jls_copy.specs.declared.reader.CopyFault.TheVariants.{NoPicture}
use Rattle.jls_marker.specs.declared.profile.Profile.TheVariants.{Wide}
use Rattle.jls_search.specs.Faultless.{IsFaultless}
use Rattle.jls_search.specs.declared.shape_found.ShapeFound.{ShapeFound}
use Rattle.jls_search.specs.declared.shape_found.ShapeFound.TheVariants.{Taken, Differ, NoFrame}

-- One file ---------------------------------------------------------------------------------------------------------

-- the file has a frame of this shape
abbrev pub HasFrameOfShape : PictureShape → List ℕ → Type 0
HasFrameOfShape shape file = (c : Course) × IsCourseUnder Wide file c × (c.headers.frame ≡ Some shape)

-- the file has a frame of another shape
abbrev pub HasFrameOfOtherShape : PictureShape → List ℕ → Type 0
HasFrameOfOtherShape shape file = (other : PictureShape) × HasFrameOfShape other file × (other ≡ shape → ⊥)

-- the file has no frame
abbrev pub HasNoFrame : List ℕ → Type 0
HasNoFrame file = (c : Course) × IsCourseUnder Wide file c × (c.headers.frame ≡ None)

-- Files ------------------------------------------------------------------------------------------------------------

-- the shape of the first of these files that has a frame
abbrev pub IsFirstShape : List (List ℕ) → PictureShape → Type 0
IsFirstShape [] shape = ⊥
IsFirstShape (file ∷ files) shape = HasFrameOfShape shape file ⊎ (HasNoFrame file × IsFirstShape files shape)

-- each of these files has a fault
abbrev pub NoneIsFaultless : List (List ℕ) → Type 0
NoneIsFaultless files = (file : List ℕ) → Contains files file → IsFaultless file → ⊥

-- the shape that is taken: each file without a fault, among the copies and what was found, has it. If there is none, it is that of the
-- first copy with a frame
pub record IsShapeTaken (copies found : List (List ℕ)) (shape : PictureShape) : Type 0 where
  pub of_faultless : (file : List ℕ) → Contains (copies ++ found) file → IsFaultless file → HasFrameOfShape shape file
  pub of_first : NoneIsFaultless (copies ++ found) → IsFirstShape copies shape

-- two of the files have no fault, and their shapes differ
pub record ShapesDiffer (files : List (List ℕ)) : Type 0 where
  pub file : List ℕ
  pub among : Contains files file
  pub faultless : IsFaultless file
  pub shape : PictureShape
  pub has_shape : HasFrameOfShape shape file
  pub other : List ℕ
  pub other_among : Contains files other
  pub other_faultless : IsFaultless other
  pub has_other_shape : HasFrameOfOtherShape shape other

-- Copies -----------------------------------------------------------------------------------------------------------

-- the copy of this number, the first one's being 0, is the first whose frame has another shape than the first frame among the copies
pub record IsFirstOther (copies : List (List ℕ)) (copy : ℕ) : Type 0 where
  pub shape : PictureShape
  pub is_first_shape : IsFirstShape copies shape
  pub within : copy < length copies
  pub has_other_shape : HasFrameOfOtherShape shape (get_or copies copy [])
  pub none_before : (before : ℕ) → before < copy → HasFrameOfOtherShape shape (get_or copies before []) → ⊥

-- no copy has a frame of another shape than the first frame among the copies
abbrev pub NoneIsOther : List (List ℕ) → Type 0
NoneIsOther copies =
    (shape : PictureShape) → IsFirstShape copies shape → AllByRecursion (λ copy. HasFrameOfOtherShape shape copy → ⊥) copies

-- the copy that is named if shapes differ: that one, or the first copy if there is none
abbrev pub IsCopyNamed : List (List ℕ) → ℕ → Type 0
IsCopyNamed copies copy = IsFirstOther copies copy ⊎ (NoneIsOther copies × (copy ≡ 0))

-- What is found ----------------------------------------------------------------------------------------------------

-- What comes of the copies and of the splices found. It is the shape that is taken. Or two files without a fault differ in shape, and this
-- is the copy that is named. Or each file has a fault and no copy has a frame, and this is the fault of the first copy, with its offset
abbrev pub IsShapeFound : List (List ℕ) → List (List ℕ) → ShapeFound → Type 0
IsShapeFound copies found (Taken shape) = IsShapeTaken copies found shape
IsShapeFound copies found (Differ copy) = ShapesDiffer (copies ++ found) × IsCopyNamed copies copy
IsShapeFound copies found (NoFrame fault offset) =
    NoneIsFaultless (copies ++ found) × AllByRecursion HasNoFrame copies
    × CopyGivesNoneUnder Wide (get_or copies 0 []) (NoPicture fault offset)
