-- The laws of stations that took the copies of a picture and the splices that a search found.
use Rattle.std.specs.Prelude.{◌≡◌, ℕ, ◌<◌, false, List, [], ◌++◌, length, map, Option}
use Rattle.jls_values.specs.Shape.{PictureShape}
use Rattle.jls_partial.specs.Partial.{PartialPicture, nothing_known}
use Rattle.jls_partial.specs.Status.{IsSettled}
use Rattle.jls_marker.specs.declared.profile.Profile.TheVariants.{Wide}
use Rattle.jls_write.specs.Picture.{WholePicture, picture_of}
use Rattle.jls_write.specs.WholePictures.{IsPicture}
use Rattle.jls_headline.specs.Sources.{SourcedCopy, sourced_copy}
use Rattle.jls_headline.specs.TookFiles.{TookFiles}
use Rattle.jls_diff.specs.Parts.{Part, AreParts, IsSplice}
use Rattle.jls_search.specs.Faultless.{IsSought, IsWithin}
use Rattle.jls_search.specs.Search.{CameTo, files_of}
use Rattle.jls_splice_laws.specs.ProfileFiles.{HoldsExactlyBy}
use Rattle.jls_splice_laws.specs.Taken.{AreFilesOfShape}
use Rattle.jls_splice_laws.specs.WholeFiles.{IsWholeFileUnder}
use Rattle.jls_search.specs.Shapes.{IsShapeTaken}
use Rattle.jls_search.specs.Stations.{TakesFiles}

-- each file under the source, if there is one
abbrev pub under : Option ℕ → List (List ℕ) → List SourcedCopy
under source files = map (sourced_copy source) files

-- Public calls came to the station, which took those of the files that have the shape, each read under the wide profile and under the
-- source. It holds exactly their readings
pub record HoldsFiles (source : Option ℕ) (shape : PictureShape) (files : List (List ℕ)) (station : PartialPicture) : Type 0 where
  pub taken : List (List ℕ)
  pub of_shape : AreFilesOfShape shape files taken
  pub read : TookFiles Wide station (under source taken) []
  pub exactly : HoldsExactlyBy Wide station (under source taken)

-- what `settle_files` gives does so
abbrev pub FilesAreHeld : Type 0
FilesAreHeld =
    (source : Option ℕ) (shape : PictureShape) (files : List (List ℕ)) (station : PartialPicture)
    → TakesFiles source files (nothing_known shape) station → HoldsFiles source shape files station

-- copies were searched under this ceiling, with tries enough; `settle_files` gave this station of this shape
pub record WereSpliced (ceiling : Option ℕ) (copies : List (List ℕ)) (parts : List Part) (source : Option ℕ) (station : PartialPicture)
    : Type 0 where
  pub some_copy : 0 < length copies
  pub are_parts : AreParts copies parts
  pub found : List (List ℕ)
  pub searched : CameTo (IsSought ceiling) parts found false
  pub shape : PictureShape
  pub shape_is : IsShapeTaken copies (files_of parts found) shape
  pub takes : TakesFiles source (copies ++ files_of parts found) (nothing_known shape) station

-- Where an undamaged file within the ceiling is a splice of the copies: not each line of the station is settled, or they are that file's
-- picture
abbrev pub SplicedCopiesGiveNoOther : Type 0
SplicedCopiesGiveNoOther =
    (ceiling : Option ℕ) (copies : List (List ℕ)) (parts : List Part) (source : Option ℕ) (station : PartialPicture)
    → WereSpliced ceiling copies parts source station
    → (pic : WholePicture) → IsPicture pic → (file : List ℕ) → IsWholeFileUnder Wide pic file → IsWithin ceiling file
    → IsSplice (length copies) parts file
    → IsSettled station → picture_of station ≡ pic
