-- What a station takes of files, which are read under the wide profile.
use Rattle.std.specs.Prelude.{◌≡◌, ℕ, List, [], ◌∷◌, Option, fold}
use Rattle.jls_values.specs.Shape.{PictureShape}
use Rattle.jls_partial.specs.Partial.{PartialPicture, union}
use Rattle.jls_copy.specs.CopyReads.{CopyReadsUnder}
use Rattle.jls_copy.specs.ReadCopy.{ReadCopy}
use Rattle.jls_station.specs.Given.{marked}
use Rattle.jls_marker.specs.SegmentLaws.{AreBytes}
use Rattle.jls_marker.specs.declared.profile.Profile.TheVariants.{Wide}
use Rattle.jls_search.specs.Shapes.{HasFrameOfShape}

-- what files give a station of this shape, one after the other. A file of the shape gives its readings, under the source if there is one.
-- Any other file gives nothing
pub data Give (source : Option ℕ) (shape : PictureShape) : List (List ℕ) → List PartialPicture → Type 0 where
  no_file : Give source shape [] []
  gives : (file : List ℕ) (read : ReadCopy) (files : List (List ℕ)) (given : List PartialPicture) → AreBytes file
      → CopyReadsUnder Wide file read → read.partial.shape ≡ shape → Give source shape files given
      → Give source shape (file ∷ files) (marked source read.partial ∷ given)
  gives_nothing : (file : List ℕ) (files : List (List ℕ)) (given : List PartialPicture) → (HasFrameOfShape shape file → ⊥)
      → Give source shape files given → Give source shape (file ∷ files) given

-- A station that held the first of these took the files, each under the source if there is one, and holds the second. That is the union of
-- what it held and of all that they give
pub record TakesFiles (source : Option ℕ) (files : List (List ℕ)) (old new : PartialPicture) : Type 0 where
  pub given : List PartialPicture
  pub give : Give source old.shape files given
  pub union_is : new ≡ fold union old given
