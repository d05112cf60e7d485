-- What is read of a copy is what the copy gives.
use Rattle.std.proofs.Common.{◌≡◌, ℕ, ◌<◌, true, List, Option, Some, sym, ap, ◌∙◌}
use Rattle.std.specs.Prelude.{◌↔◌}
use Rattle.std.specs.List.{AllByRecursion}
use Rattle.jls_values.specs.OrderedSet as set
use Rattle.jls_values.specs.Shape.{PictureShape}
use Rattle.jls_partial.specs.Reading.{Reading}
use Rattle.jls_partial.specs.Partial.{PartialPicture}
use Rattle.jls_copy.specs.CopyReads.{CopyReads}
use Rattle.jls_copy.specs.ReadCopy.{ReadCopy}
use Rattle.jls_copy_laws.specs.Gives.{GivesReading}
use Rattle.jls_copy_laws.proofs.CopyScans.{course_has_scans}
use Rattle.jls_copy_laws.proofs.Gives.{readings_are_of_the_course}
use Rattle.jls_headline.specs.Stations.{HasShape}
use Rattle.jls_copy.specs.Course.{Course}
use Rattle.jls_copy.specs.Prefixes.{CourseHasReading}
use Rattle.jls_copy.proofs.ReadGives.{held_is_given, given_is_held}

abbrev some_shape : PictureShape → Option PictureShape
some_shape shape = Some shape

-- the frame of what was read is that of the course
frame_is : (copy : List ℕ) (read : ReadCopy) (reads : CopyReads copy read) → reads.course.headers.frame ≡ Some read.partial.shape
frame_is copy read reads = reads.framed ∙ ap (λ (p : PartialPicture). some_shape p.shape) (sym reads.partial_is)

course_gives : (copy : List ℕ) → AllByRecursion (λ b. b < 256) copy → (read : ReadCopy) (reads : CopyReads copy read) (r : Reading)
    → (set.contains read.partial.readings r ≡ true) ↔ CourseHasReading reads.course r
course_gives copy low read reads r = (held_is_given copy read reads r, given_is_held copy read reads low r)

-- what was read of a copy is what the copy gives
pub copy_gives : (copy : List ℕ) → AllByRecursion (λ b. b < 256) copy → (read : ReadCopy) → CopyReads copy read → (r : Reading)
    → (set.contains read.partial.readings r ≡ true) ↔ GivesReading copy r
copy_gives copy low read reads r =
    let by_course = course_gives copy low read reads r in
    let by_copy = readings_are_of_the_course copy reads.course read.partial.shape r low reads.is_course (frame_is copy read reads) in
    (λ h. by_copy.1 (by_course.0 h), λ g. by_course.1 (by_copy.0 g))

pub copy_has_shape : (copy : List ℕ) → AllByRecursion (λ b. b < 256) copy → (read : ReadCopy) → CopyReads copy read
    → HasShape read.partial.shape copy
copy_has_shape copy low read reads =
    (_, course_has_scans copy reads.course read.partial.shape low reads.is_course (frame_is copy read reads))
