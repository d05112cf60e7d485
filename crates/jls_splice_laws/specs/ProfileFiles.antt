-- What files give under a profile, by their course. Under the strict profile this is what copies give by the definitions of jls_copy_laws.
use Rattle.std.specs.Prelude.{◌≡◌, ◌≢◌, ℕ, ◌<◌, true, List, [], Some, ◌↔◌}
use Rattle.std.specs.List.{AllByRecursion, Contains}
use Rattle.jls_values.specs.OrderedSet as set
use Rattle.jls_values.specs.Shape.{PictureShape}
use Rattle.jls_partial.specs.Partial.{PartialPicture}
use Rattle.jls_partial.specs.Reading.{Reading}
use Rattle.jls_marker.specs.ProfileLaws.{under}
use Rattle.jls_marker.specs.declared.profile.Profile.{Profile}
use Rattle.jls_marker.specs.declared.profile.Profile.TheVariants.{Strict, Wide}
use Rattle.jls_copy.specs.Course.{Course, IsCourse, IsCourseUnder}
use Rattle.jls_copy.specs.Prefixes.{CourseHasReading}
use Rattle.jls_copy_laws.specs.Gives.{GivesReading}
use Rattle.jls_headline.specs.Collected.{Knowledge, Collected}
use Rattle.jls_headline.specs.Sources.{SourcedCopy, copies_of}
use Rattle.jls_headline.specs.Stations.{HasShape}
use Rattle.jls_headline.specs.TookFiles.{TookFiles, TookFilesFrom}
use Rattle.jls_copy.specs.declared.end.End.TheVariants.{Header}
use Rattle.jls_marker.specs.declared.fault.MarkerFault.TheVariants as fault

-- the file is a list of bytes, and its course under the profile takes a frame of this shape
pub record HasShapeUnder (profile : Profile) (shape : PictureShape) (file : List ℕ) : Type 0 where
  pub bytes : AllByRecursion (λ b. b < 256) file
  pub course : Course
  pub is_course : IsCourseUnder profile file course
  pub framed : course.headers.frame ≡ Some shape

-- it takes a frame of some shape, and gives the reading: a piece of it does, or the head of the piece that the input's end cuts off
abbrev pub GivesReadingUnder : Profile → List ℕ → Reading → Type 0
GivesReadingUnder profile file r = (shape : PictureShape) × (has : HasShapeUnder profile shape file) × CourseHasReading has.course r

-- one of these files gives it
abbrev pub ReadingsUnder : Profile → List (List ℕ) → Reading → Type 0
ReadingsUnder profile files r = (file : List ℕ) × Contains files file × GivesReadingUnder profile file r

-- the file gives the reading under the profile, and was read under this source
abbrev pub GivesFrom : Profile → SourcedCopy → Reading → ℕ → Type 0
GivesFrom profile file r source = (file.source ≡ Some source) × GivesReadingUnder profile file.bytes r

-- Under the profile the files have the partial picture's shape. It holds exactly the readings that they give, each with exactly the sources
-- of those files that give it
pub record HoldsExactlyBy (profile : Profile) (p : PartialPicture) (files : List SourcedCopy) : Type 0 where
  pub are_files : AllByRecursion (HasShapeUnder profile p.shape) (copies_of files)
  pub readings : (r : Reading) → (set.contains p.readings r ≡ true) ↔ ReadingsUnder profile (copies_of files) r
  pub sources : (r : Reading) (source : ℕ)
      → (set.contains p.marks (r, source) ≡ true)
      ↔ ((file : SourcedCopy) × Contains files file × GivesFrom profile file r source)

-- what public calls came to that took files under a profile does so
abbrev pub TookFilesHoldsExactly : Type 0
TookFilesHoldsExactly =
    (profile : Profile) (station : PartialPicture) (files : List SourcedCopy) → TookFilesFrom profile station files
    → HoldsExactlyBy profile station files

-- Under the strict profile, a file has the frame and gives the readings that it has and gives as a copy
abbrev pub StrictFilesGiveAsCopies : Type 0
StrictFilesGiveAsCopies =
    (file : List ℕ)
    → ((shape : PictureShape) → HasShape shape file ↔ HasShapeUnder Strict shape file)
    × ((r : Reading) → GivesReading file r ↔ GivesReadingUnder Strict file r)

-- what a file gives under the strict profile, it gives under the wide one too, in the same frame
abbrev pub WideGivesWhatStrictGives : Type 0
WideGivesWhatStrictGives =
    (file : List ℕ)
    → ((shape : PictureShape) → HasShapeUnder Strict shape file → HasShapeUnder Wide shape file)
    × ((r : Reading) → GivesReadingUnder Strict file r → GivesReadingUnder Wide file r)

-- Files by line ------------------------------------------------------------------------------------------------------

-- the same course, with another profile in its headers
abbrev pub course_under : Profile → Course → Course
course_under profile c = record c { headers = under profile c.headers }

-- the file has one course under both profiles, but for the profile in its headers. So no scan of it is by sample
abbrev pub IsByLine : List ℕ → Type 0
IsByLine file = (c : Course) × IsCourse file c × IsCourseUnder Wide file (course_under Wide c)

-- so it is of each file, damaged or not, unless the strict course ends with the fault of a scan's interleaving
abbrev pub OtherFilesAreByLine : Type 0
OtherFilesAreByLine =
    (file : List ℕ) (c : Course) → IsCourse file c → ((offset : ℕ) → c.end ≢ Header fault.Interleave offset) → IsByLine file

-- such a file has one frame, and gives the same readings, under both profiles
abbrev pub FilesByLineGiveTheSame : Type 0
FilesByLineGiveTheSame =
    (file : List ℕ) → IsByLine file
    → ((shape : PictureShape) → HasShapeUnder Strict shape file ↔ HasShapeUnder Wide shape file)
    × ((r : Reading) → GivesReadingUnder Strict file r ↔ GivesReadingUnder Wide file r)

-- a station that took files by line under the wide profile is collected from copies, whatever else is known
abbrev pub FilesByLineAreCollected : Type 0
FilesByLineAreCollected =
    (station : PartialPicture) (files over : List SourcedCopy) → TookFiles Wide station files over
    → AllByRecursion IsByLine (copies_of files) → AllByRecursion IsByLine (copies_of over)
    → (known : Knowledge) → Collected known station files over
