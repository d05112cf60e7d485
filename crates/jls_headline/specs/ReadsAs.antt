-- When a station or a file gives a picture.
use Rattle.std.specs.Prelude.{◌≡◌, ℕ, ◌^◌, ◌<◌, List, ◌↔◌}
use Rattle.jls_values.specs.Params.{AreCodingParameters}
use Rattle.jls_partial.specs.Reading.{Reading}
use Rattle.jls_partial.specs.Partial.{PartialPicture}
use Rattle.jls_partial.specs.Status.{IsSettled}
use Rattle.jls_write.specs.Picture.{WholePicture, picture_of}
use Rattle.jls_write.specs.WholePictures.{IsPicture}
use Rattle.jls_write.specs.Options.{WriteOptions, OptionsFit}
use Rattle.jls_write.specs.WrittenFile.{written_file}
use Rattle.jls_file_laws.specs.Covering.{IsLineOf}
use Rattle.jls_copy_laws.specs.Gives.{GivesReading}
use Rattle.jls_headline.specs.Stations.{HasShape}

-- each line of the station has exactly one reading, and together these readings are the picture
abbrev pub GivesPicture : PartialPicture → WholePicture → Type 0
GivesPicture station pic = IsSettled station × (picture_of station ≡ pic)

-- the file's frame has the picture's shape, and its readings are the picture's lines and no others
pub record ReadsAs (file : List ℕ) (pic : WholePicture) : Type 0 where
  pub shape : HasShape pic.shape file
  pub readings : (r : Reading) → GivesReading file r ↔ IsLineOf pic r

-- it reads as this picture, and as no other
pub record ReadsAsOnly (file : List ℕ) (pic : WholePicture) : Type 0 where
  pub reads : ReadsAs file pic
  pub no_other : (other : WholePicture) → IsPicture other → ReadsAs file other → other ≡ pic

-- each JPEG-LS file that is written of this picture, under options in their ranges that fit it, reads as it and as no other
abbrev pub FilesReadBack : WholePicture → Type 0
FilesReadBack pic =
    (o : WriteOptions) → AreCodingParameters o.params → o.restart_interval < 2 ^ 32 → OptionsFit pic o
    → ReadsAsOnly (written_file pic o) pic

-- Each JPEG-LS file that is written of the station's picture reads as the picture `pic` and as no other. The options are in their ranges
-- and fit `pic`
abbrev pub FilesReadAs : PartialPicture → WholePicture → Type 0
FilesReadAs station pic =
    (o : WriteOptions) → AreCodingParameters o.params → o.restart_interval < 2 ^ 32 → OptionsFit pic o
    → ReadsAsOnly (written_file (picture_of station) o) pic
