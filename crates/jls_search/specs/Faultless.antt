-- Files without a fault, and prefixes that no such file begins with. Files are read under the wide profile here, and wherever this crate
-- speaks of them: scans by line and by sample.
use Rattle.std.specs.Prelude.{◌≡◌, ℕ, ◌<◌, ◌≤◌, Bool, false, List, [], ◌++◌, length, get_or, Option, Some, None}
use Rattle.std.specs.List.{AllByRecursion}
use Rattle.jls_values.specs.Shape.{PictureShape}
use Rattle.jls_partial.specs.Partial.{PartialPicture, readings_at}
use Rattle.jls_partial.specs.Reading.{Reading, reading_of}
use Rattle.jls_copy.specs.Course.{Course, IsCourseUnder}
use Rattle.jls_copy.specs.Prefixes.{HasLines, CourseHasReading}
use Rattle.jls_copy.specs.Pieces.{pieces}
use Rattle.jls_copy.specs.declared.reader.CopyFault.{CopyFault}
use Rattle.jls_copy.specs.declared.reader.CopyFault.TheVariants.{NoPicture, OutOfMemory}
use Rattle.jls_copy.specs.declared.end.End.{End}
use Rattle.jls_copy.specs.declared.end.End.TheVariants.{Eoi, Input, Header}
use Rattle.jls_marker.specs.declared.profile.Profile.TheVariants.{Wide}

-- no fault of the headers ended a file
abbrev pub EndsWell : End → Type 0
EndsWell (Eoi offset) = Unit {0}
EndsWell (Input offset) = Unit {0}
EndsWell (Header f offset) = ⊥

-- a course gives a reading of each line of a shape
abbrev pub GivesEachLine : PictureShape → Course → Type 0
GivesEachLine shape c = (component line : ℕ) → component < length shape.ids → line < shape.height
    → (samples : List ℕ) × CourseHasReading c (reading_of component line samples)

-- A file has a frame, and no fault of its headers ended it. Each piece can be decoded, and each line of its frame has a reading
pub record IsFaultless (file : List ℕ) : Type 0 where
  pub course : Course
  pub is_course : IsCourseUnder Wide file course
  pub shape : PictureShape
  pub framed : course.headers.frame ≡ Some shape
  pub ends : EndsWell course.end
  pub each : AllByRecursion HasLines (pieces course)
  pub whole : GivesEachLine shape course

-- each sample of each reading that a file of bytes gives is at most the ceiling, if there is one
abbrev pub IsWithin : Option ℕ → List ℕ → Type 0
IsWithin None file = Unit {0}
IsWithin (Some ceiling) file =
    AllByRecursion (λ b. b < 256) file → (c : Course) → IsCourseUnder Wide file c → (r : Reading) → CourseHasReading c r
    → AllByRecursion (λ sample. sample ≤ ceiling) r.samples

-- a file without a fault, whose samples are at most the ceiling, if there is one: such files are sought
abbrev pub IsSought : Option ℕ → List ℕ → Type 0
IsSought ceiling file = IsFaultless file × IsWithin ceiling file

-- no file of some kind begins with these bytes
abbrev pub IsDead : (List ℕ → Type 0) → List ℕ → Type 0
IsDead Sought prefix = (more : List ℕ) → AllByRecursion (λ b. b < 256) (prefix ++ more) → Sought (prefix ++ more) → ⊥

-- Inside the crate ---------------------------------------------------------------------------------------------------

-- each line of the component has a reading
abbrev pub IsComponentRead : PartialPicture → ℕ → Type 0
IsComponentRead p component = (line : ℕ) → line < p.shape.height → 0 < length (readings_at p component line)

-- and each line of each component
abbrev pub IsEachLineRead : PartialPicture → Type 0
IsEachLineRead p = (component : ℕ) → component < length p.shape.ids → IsComponentRead p component

-- What is answered where no frame was taken: it isn't a file without a fault; nothing, where memory was refused
abbrev pub IsAnswerWithoutFrame : CopyFault → Bool → Type 0
IsAnswerWithoutFrame (NoPicture f offset) answer = answer ≡ false
IsAnswerWithoutFrame OutOfMemory answer = ⊥

-- each sample of each reading of the line is at most the ceiling
abbrev pub IsLineWithin : ℕ → PartialPicture → ℕ → ℕ → Type 0
IsLineWithin ceiling p component line =
    (i : ℕ) → i < length (readings_at p component line)
    → AllByRecursion (λ sample. sample ≤ ceiling) (get_or (readings_at p component line) i [])

-- and of each line of the component
abbrev pub IsComponentWithin : ℕ → PartialPicture → ℕ → Type 0
IsComponentWithin ceiling p component = (line : ℕ) → line < p.shape.height → IsLineWithin ceiling p component line

-- and of each component
abbrev pub IsPictureWithin : ℕ → PartialPicture → Type 0
IsPictureWithin ceiling p = (component : ℕ) → component < length p.shape.ids → IsComponentWithin ceiling p component

-- and of the picture, if there is a ceiling
abbrev pub IsReadWithin : Option ℕ → PartialPicture → Type 0
IsReadWithin None p = Unit {0}
IsReadWithin (Some ceiling) p = IsPictureWithin ceiling p
