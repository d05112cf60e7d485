-- What files give under a profile: under the strict one what copies give, and of files by line the same under both.
use Rattle.std.proofs.Common.{◌≡◌, ℕ, ◌<◌, List, ◌++◌, length, take, Some, sym, ap, ◌∙◌, subst}
use Rattle.std.specs.Prelude.{◌↔◌}
use Rattle.std.specs.List.{AllByRecursion}
use Rattle.jls_values.specs.OrderedSet as set
use Rattle.jls_values.specs.Shape.{PictureShape}
use Rattle.jls_partial.specs.Partial.{without_sources}
use Rattle.jls_partial.specs.Reading.{Reading, reading_cmp}
use Rattle.jls_marker.specs.declared.profile.Profile.{Profile}
use Rattle.jls_marker.specs.declared.profile.Profile.TheVariants.{Strict, Wide}
use Rattle.jls_copy.specs.Course.{Course}
use Rattle.jls_copy.specs.CourseLaws.{SomeCourse}
use Rattle.jls_copy.specs.CopyReads.{CopyReads, CopyReadsUnder}
use Rattle.jls_copy.specs.CutPieces.{cut_pieces, IsHeadOfCut, head_readings}
use Rattle.jls_copy.specs.Pieces.{AreOutcomes, pieces, readings, records}
use Rattle.jls_copy.specs.Prefixes.{CourseHasReading}
use Rattle.jls_copy.specs.ReadCopy.{ReadCopy}
use Rattle.jls_copy.proofs.CourseFed.{course_fed}
use Rattle.jls_copy.proofs.OneCourse.{one_course}
use Rattle.jls_copy_laws.specs.Gives.{GivesReading}
use Rattle.jls_copy_laws.proofs.CopyScans.{course_has_scans, has_course_with}
use Rattle.jls_copy_laws.proofs.Gives.{readings_are_of_the_course}
use Rattle.jls_headline.specs.Stations.{HasShape}
use Rattle.jls_splice_laws.proofs.StrictCourses.{wide_course_of}
use Rattle.jls_splice_laws.specs.ProfileFiles.{HasShapeUnder, GivesReadingUnder, StrictFilesGiveAsCopies, course_under, IsByLine}
use Rattle.jls_splice_laws.specs.ProfileFiles.{OtherFilesAreByLine, FilesByLineGiveTheSame}

-- Courses ------------------------------------------------------------------------------------------------------------

some_course : SomeCourse
some_course bytes low = let fed = course_fed Strict bytes low in (fed.0, fed.1)

-- a file has one shape
pub one_shape : (profile : Profile) (file : List ℕ) (s t : PictureShape) → HasShapeUnder profile s file → HasShapeUnder profile t file
    → s ≡ t
one_shape profile file s t a b =
    let e : a.course ≡ b.course = one_course file a.course b.course a.is_course b.is_course in
    let same : Some s ≡ Some t = sym a.framed ∙ ap (λ (c : Course). c.headers.frame) e ∙ b.framed in cc

-- Under the strict profile -------------------------------------------------------------------------------------------

has_strictly : (file : List ℕ) (shape : PictureShape) → HasShape shape file → HasShapeUnder Strict shape file
has_strictly file shape (scans, h) =
    let of = has_course_with some_course file shape scans h in
    record { bytes = h.are_bytes; course = of.course; is_course = of.is_course; framed = of.framed }

has_as_copy : (file : List ℕ) (shape : PictureShape) → HasShapeUnder Strict shape file → HasShape shape file
has_as_copy file shape h = (_, course_has_scans file h.course shape h.bytes h.is_course h.framed)

pub strict_files_give_as_copies : StrictFilesGiveAsCopies
strict_files_give_as_copies file = (λ shape. (has_strictly file shape, has_as_copy file shape), λ r. (there r, back r))
  where
    of : (shape : PictureShape) (h : HasShapeUnder Strict shape file) (r : Reading) → GivesReading file r ↔ CourseHasReading h.course r
    of shape h r = readings_are_of_the_course file h.course shape r h.bytes h.is_course h.framed

    there : (r : Reading) → GivesReading file r → GivesReadingUnder Strict file r
    there r gives =
        let h = has_strictly file gives.0 (gives.1, gives.2) in (gives.0, h, (of gives.0 h r).0 gives)

    back : (r : Reading) → GivesReadingUnder Strict file r → GivesReading file r
    back r (shape, h, gives) = (of shape h r).1 gives

-- Files by line ------------------------------------------------------------------------------------------------------

pub other_files_are_by_line : OtherFilesAreByLine
other_files_are_by_line file c is other = (c, is, wide_course_of file c is other)

module _ (file : List ℕ) (l : IsByLine file) where
  -- the courses of the file
  abbrev strict : Course
  strict = l.0

  abbrev wide : Course
  wide = course_under Wide l.0

  has_wide : (shape : PictureShape) → HasShapeUnder Strict shape file → HasShapeUnder Wide shape file
  has_wide shape h =
      let e : h.course ≡ strict = one_course file h.course strict h.is_course l.1 in
      record {
        bytes = h.bytes;
        course = wide;
        is_course = l.2;
        framed = ap (λ (c : Course). c.headers.frame) (sym e) ∙ h.framed;
      }

  has_strict : (shape : PictureShape) → HasShapeUnder Wide shape file → HasShapeUnder Strict shape file
  has_strict shape h =
      let e : h.course ≡ wide = one_course file h.course wide h.is_course l.2 in
      record {
        bytes = h.bytes;
        course = strict;
        is_course = l.1;
        framed = ap (λ (c : Course). c.headers.frame) (sym e) ∙ h.framed;
      }

  gives_wide : (r : Reading) → GivesReadingUnder Strict file r → GivesReadingUnder Wide file r
  gives_wide r (shape, h, gives) =
      let e : h.course ≡ strict = one_course file h.course strict h.is_course l.1 in (
        shape,
        record {
          bytes = h.bytes;
          course = wide;
          is_course = l.2;
          framed = ap (λ (c : Course). c.headers.frame) (sym e) ∙ h.framed;
        },
        subst (λ (c : Course). CourseHasReading c r) e gives,
      )

  gives_strict : (r : Reading) → GivesReadingUnder Wide file r → GivesReadingUnder Strict file r
  gives_strict r (shape, h, gives) =
      let e : h.course ≡ wide = one_course file h.course wide h.is_course l.2 in (
        shape,
        record {
          bytes = h.bytes;
          course = strict;
          is_course = l.1;
          framed = ap (λ (c : Course). c.headers.frame) (sym e) ∙ h.framed;
        },
        subst (λ (c : Course). CourseHasReading c r) e gives,
      )

  -- what is read of the file under the wide profile is read of it as a copy
  pub read_as_copy : (read : ReadCopy) → CopyReadsUnder Wide file read → CopyReads file read
  read_as_copy read h =
      let e : h.course ≡ wide = one_course file h.course wide h.is_course l.2 in
      record {
        course = strict;
        is_course = l.1;
        shape = h.shape;
        framed = ap (λ (c : Course). c.headers.frame) (sym e) ∙ h.framed;
        outcomes = h.outcomes;
        each = subst (λ (c : Course). AreOutcomes (pieces c) h.outcomes) e h.each;
        head = h.head;
        head_is = subst (λ (c : Course). IsHeadOfCut (cut_pieces c) h.head) e h.head_is;
        partial_is = subst (λ (c : Course). read.partial ≡ without_sources h.shape (set.insert_all {R = reading_cmp} set.empty
            (readings (pieces c) h.outcomes ++ head_readings (cut_pieces c) h.head))) e h.partial_is;
        pieces_are = subst (λ (c : Course). read.pieces ≡ take 4096 (records (pieces c) h.outcomes)) e h.pieces_are;
        count_is = subst (λ (c : Course). read.piece_count ≡ length (records (pieces c) h.outcomes)) e h.count_is;
        ended_is = subst (λ (c : Course). read.ended ≡ c.end) e h.ended_is;
      }

pub files_by_line_give_the_same : FilesByLineGiveTheSame
files_by_line_give_the_same file l = (
  λ shape. (has_wide file l shape, has_strict file l shape),
  λ r. (gives_wide file l r, gives_strict file l r),
)
