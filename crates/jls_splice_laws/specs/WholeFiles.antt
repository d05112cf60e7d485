-- Undamaged files of a picture. jls-splice reads them under the wide profile, and so also those whose scans are by sample.
use Rattle.std.specs.Prelude.{ℕ, ◌<◌, List, length, ◌↔◌}
use Rattle.std.specs.List.{AllByRecursion}
use Rattle.jls_partial.specs.Reading.{Reading}
use Rattle.jls_marker.specs.declared.profile.Profile.{Profile}
use Rattle.jls_marker.specs.declared.profile.Profile.TheVariants.{Wide}
use Rattle.jls_copy.specs.Course.{Course, IsCourse, IsCourseUnder}
use Rattle.jls_copy.specs.Pieces.{pieces}
use Rattle.jls_write.specs.Picture.{WholePicture}
use Rattle.jls_file_laws.specs.Covering.{IsLineOf}
use Rattle.jls_headline.specs.ReadsAs.{ReadsAs}
use Rattle.jls_headline.specs.Damaged.{Survives}
use Rattle.jls_copy.specs.Prefixes.{HasLines}
use Rattle.jls_search.specs.Faultless.{EndsWell, IsFaultless}
use Rattle.jls_splice_laws.specs.ProfileFiles.{HasShapeUnder, GivesReadingUnder}

-- under a profile, the file's frame has the picture's shape, and its readings are the picture's lines and no others
pub record ReadsAsUnder (profile : Profile) (file : List ℕ) (pic : WholePicture) : Type 0 where
  pub shape : HasShapeUnder profile pic.shape file
  pub readings : (r : Reading) → GivesReadingUnder profile file r ↔ IsLineOf pic r

-- under a profile, the bytes are a file that reads as the picture, no fault of the headers ended it, and no piece of it is faulty
pub record IsWholeFileUnder (profile : Profile) (pic : WholePicture) (file : List ℕ) : Type 0 where
  pub bytes : AllByRecursion (λ b. b < 256) file
  pub reads : ReadsAsUnder profile file pic
  pub course : Course
  pub is_course : IsCourseUnder profile file course
  pub ends : EndsWell course.end
  pub each : AllByRecursion HasLines (pieces course)

-- an undamaged file of a picture, by line or by sample, is a file without a fault
abbrev pub WholeFilesAreFaultless : Type 0
WholeFilesAreFaultless = (pic : WholePicture) (file : List ℕ) → IsWholeFileUnder Wide pic file → IsFaultless file

-- By line ------------------------------------------------------------------------------------------------------------

-- each piece of the file reads as lines
abbrev pub NoPieceIsFaulty : List ℕ → Type 0
NoPieceIsFaulty file = (c : Course) × IsCourse file c × AllByRecursion HasLines (pieces c)

-- the bytes are a file by line that reads as the picture, no fault of the headers ended it, and no piece of it is faulty
pub record IsWholeFile (pic : WholePicture) (file : List ℕ) : Type 0 where
  pub bytes : AllByRecursion (λ b. b < 256) file
  pub reads : ReadsAs file pic
  pub course : Course
  pub is_course : IsCourse file course
  pub ends : EndsWell course.end
  pub each : AllByRecursion HasLines (pieces course)

-- such a file is an undamaged file under the wide profile too
abbrev pub FilesByLineAreWhole : Type 0
FilesByLineAreWhole = (pic : WholePicture) (file : List ℕ) → IsWholeFile pic file → IsWholeFileUnder Wide pic file

-- Each line of a picture survives in a file by line that reads as it and has no faulty piece, whatever ended the file
abbrev pub WholeFilesSurvive : Type 0
WholeFilesSurvive =
    (pic : WholePicture) (file : List ℕ) → AllByRecursion (λ b. b < 256) file → ReadsAs file pic → NoPieceIsFaulty file
    → (component line : ℕ) → component < length pic.shape.ids → line < pic.shape.height → Survives pic file component line
