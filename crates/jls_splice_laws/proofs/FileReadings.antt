-- What is read of a file under a profile is what the file gives.
use Rattle.std.proofs.Common.{◌≡◌, ℕ, ◌<◌, true, List, Option, Some, sym, ap, ◌∙◌, subst}
use Rattle.std.specs.Prelude.{◌↔◌}
use Rattle.std.specs.List.{AllByRecursion}
use Rattle.jls_values.specs.OrderedSet as set
use Rattle.jls_values.specs.Shape.{PictureShape}
use Rattle.jls_partial.specs.Partial.{PartialPicture}
use Rattle.jls_partial.specs.Reading.{Reading}
use Rattle.jls_marker.specs.declared.profile.Profile.{Profile}
use Rattle.jls_copy.specs.Course.{Course}
use Rattle.jls_copy.specs.CopyReads.{CopyReadsUnder}
use Rattle.jls_copy.specs.Prefixes.{CourseHasReading}
use Rattle.jls_copy.specs.ReadCopy.{ReadCopy}
use Rattle.jls_copy.proofs.OneCourse.{one_course}
use Rattle.jls_copy.proofs.ReadGives.{held_is_given, given_is_held}
use Rattle.jls_station.specs.Given.{marked}
use Rattle.jls_headline.proofs.SourcedStations.{Mark, is_marked, marks_given}
use Rattle.jls_splice_laws.specs.ProfileFiles.{HasShapeUnder, GivesReadingUnder}

abbrev some_shape : PictureShape → Option PictureShape
some_shape shape = Some shape

module _ {profile : Profile} (file : List ℕ) (low : AllByRecursion (λ b. b < 256) file) (read : ReadCopy)
    (reads : CopyReadsUnder profile file read) where
  -- the frame of what was read is that of the course
  pub has_shape_read : HasShapeUnder profile read.partial.shape file
  has_shape_read = record {
    bytes = low;
    course = reads.course;
    is_course = reads.is_course;
    framed = reads.framed ∙ ap (λ (p : PartialPicture). some_shape p.shape) (sym reads.partial_is);
  }

  pub file_gives : (r : Reading) → (set.contains read.partial.readings r ≡ true) ↔ GivesReadingUnder profile file r
  unfolding has_shape_read
  file_gives r = (
    λ h. (read.partial.shape, has_shape_read, held_is_given file read reads r h),
    λ g. given_is_held file read reads low r (subst (λ (c : Course). CourseHasReading c r)
        (one_course file g.1.course reads.course g.1.is_course reads.is_course) g.2),
  )

  pub file_gives_marks : (source : Option ℕ) (m : Mark)
      → (is_marked (marked source read.partial) m ≡ true) ↔ ((source ≡ Some m.1) × GivesReadingUnder profile file m.0)
  file_gives_marks source m =
      marks_given read.partial (ap (λ (p : PartialPicture). p.marks) reads.partial_is) (GivesReadingUnder profile file) file_gives source m
