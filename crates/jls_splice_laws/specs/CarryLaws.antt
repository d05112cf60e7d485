-- What a run of jls-splice promises of copies in several codings that gave each other lines.
use Rattle.std.specs.Prelude.{◌≡◌, ℕ, ◌<◌, true, List, [], Some}
use Rattle.std.specs.List.{AllByRecursion, AllZip}
use Rattle.clap.specs.Words.{Text}
use Rattle.jls_io.specs.Event.{Event}
use Rattle.jls_partial.specs.Status.{IsSettled}
use Rattle.jls_marker.specs.declared.profile.Profile.TheVariants.{Wide}
use Rattle.jls_copy.specs.Course.{Course, IsCourseUnder}
use Rattle.jls_held.specs.MendedFiles.{MendedFile}
use Rattle.jls_held.specs.Judging.{EditedCopy, AreMendedOf}
use Rattle.jls_carry_laws.specs.TrueFiles.{PictureLines, HasTruePieces, HasSkeleton, HaveTrueFilesOfTheirSkeletons, IsCopyOf}
use Rattle.jls_carry_laws.specs.Laws.{HasPictureLines}
use Rattle.jls_cli.specs.SpliceAsking.{Asked}
use Rattle.jls_carried.specs.CodingLines.{are_all_printed}
use Rattle.jls_splice_run.specs.Carrying.{Carried}
use Rattle.jls_splice_run.specs.Copies.{bytes_read}
use Rattle.jls_splice_run.specs.Making.{Made, promise_on}
use Rattle.jls_splice_run.specs.ReadsAs.{EachReadsAs}
use Rattle.jls_splice_run.specs.declared.found.Promise.TheVariants.{Held}
use Rattle.jls_splice_laws.specs.RunLaws.{DidMake}

-- ---- the true files

-- One file of a picture has the marker segments of the mended file: its skeleton. Each copy of the coding is of that file, and was damaged
-- nowhere but in its edits. There the file has as many bytes as the mended one
pub record IsCodingOf (picture : PictureLines) (copies : List (List ℕ)) (coding : List EditedCopy) (f : MendedFile) : Type 0 where
  pub truth : List ℕ
  pub are_bytes : AllByRecursion (λ b. b < 256) truth
  pub each_copy : AllByRecursion (IsCopyOf copies truth) coding
  pub course : Course
  pub is_course : IsCourseUnder Wide truth course
  pub each_piece : HasTruePieces picture course
  pub skeleton : HasSkeleton course f

-- so it is for each coding, with the mended file in its place
abbrev pub AreCodingsOf : PictureLines → List (List ℕ) → List (List EditedCopy) → List MendedFile → Type 0
AreCodingsOf picture copies codings files = AllZip (IsCodingOf picture copies) codings files

-- ---- what was made

-- the run prints that it promises the picture, as far as the copies of each coding are of one file
abbrev pub PromisesHeld : Made → Type 0
PromisesHeld m = promise_on m ≡ Held

-- What that promise stands on. Files are mended of the copies, each edit is printed, no copy agrees with no other, and the mended files
-- hold all lines. Each of them reads as the picture that is handed out. Then the lines are those of each picture of which each mended file
-- has a true file with its skeleton. So they are those of each picture of which each coding has one file
pub record IsPromisedHeld (copies : List (List ℕ)) (m : Made) : Type 0 where
  pub carried : Carried
  pub carried_is : m.carried ≡ Some carried
  pub are_mended : AreMendedOf copies carried.codings carried.files
  pub are_printed : are_all_printed carried.codings ≡ true
  pub none_strange : carried.strangers ≡ []
  pub held : IsSettled carried.held
  pub settled : IsSettled m.picture
  pub each_reads : EachReadsAs m.picture carried.files
  pub no_other : (picture : PictureLines) → HaveTrueFilesOfTheirSkeletons picture carried.files → HasPictureLines picture m.picture
  pub no_other_of_copies : (picture : PictureLines) → AreCodingsOf picture copies carried.codings carried.files
      → HasPictureLines picture m.picture

-- Where the run prints that promise, it stands on that, whatever the status is
abbrev pub CarriedRunsGiveNoOther : Type 0
CarriedRunsGiveNoOther =
    (words : List Text) (a : Asked) (desk report faults : List Event) (did : DidMake words a desk report faults)
    → PromisesHeld did.made → IsPromisedHeld (bytes_read did.copies) did.made
