-- What a run of jls-splice has written that was done.
use Rattle.std.specs.Prelude.{◌≡◌, ◌↔◌, ◌⊎◌, ℕ, ◌<◌, ◌≤◌, true, false, IsTrue, List, ◌++◌, length, Option, Some, Err}
use Rattle.clap.specs.Words.{Text}
use Rattle.jls_io.specs.Event.{Event}
use Rattle.jls_io.specs.Writing.{Printed}
use Rattle.jls_partial.specs.Status.{IsSettled}
use Rattle.jls_marker.specs.declared.profile.Profile.TheVariants.{Wide}
use Rattle.jls_write.specs.Picture.{WholePicture, picture_of}
use Rattle.jls_write.specs.WholePictures.{IsPicture}
use Rattle.jls_diff.specs.Parts.{IsSplice}
use Rattle.jls_search.specs.Faultless.{IsWithin}
use Rattle.jls_station.specs.CopyFiles.{CopyBytes}
use Rattle.jls_splice_laws.specs.CutLaws.{WereCut}
use Rattle.jls_splice_laws.specs.WholeFiles.{IsWholeFileUnder}
use Rattle.jls_cli.specs.FaultLines.{fault_line}
use Rattle.jls_cli.specs.SpliceAsking.{Asked, AskFor}
use Rattle.jls_cli.specs.declared.outcome.Refusal.{Refusal}
use Rattle.jls_splice_run.specs.Completing.{IsCompleted}
use Rattle.jls_splice_run.specs.Copies.{AreWhole, bytes_read}
use Rattle.jls_splice_run.specs.FaultLines.{program}
use Rattle.jls_splice_run.specs.Handing.{HandsAll}
use Rattle.jls_splice_run.specs.Inputs.{AreInputs}
use Rattle.jls_splice_run.specs.Ceilings.{has_some}
use Rattle.jls_splice_run.specs.Listing.{is_named}
use Rattle.jls_splice_run.specs.Making.{Made, IsMade, is_of_picture, notes, promise_on}
use Rattle.jls_splice_run.specs.declared.found.Promise.TheVariants.{Picture}
use Rattle.jls_splice_run.specs.Runs.{Run, Splices, texts}
use Rattle.jls_splice_run.specs.Telling.{IsTold}

-- ---- runs

-- The words ask for this, and it was done: copies were read, this was made of those that are searched, and all of it was handed out.
-- Without lists of bad places these are the same. The fault output has how far the searches were, if that is asked for. Where OUT is
-- standard output, what was found stands there too, up to a write that fails
pub record DidMake (words : List Text) (a : Asked) (desk report faults : List Event) : Type 0 where
  pub asks : AskFor words a
  pub copies_read : List CopyBytes
  pub copies : List CopyBytes
  pub made : Made
  pub reading : List Event
  pub writing : List Event
  pub telling : List Event
  pub noting : List Event
  pub desk_is : desk ≡ reading ++ writing
  pub faults_are : faults ≡ telling ++ noting
  pub read : AreInputs a copies_read copies reading
  pub is_made : IsMade a (bytes_read copies) made
  pub told : IsTold a.options.progress telling
  pub noted : Printed (notes a (bytes_read copies) made) noting
  pub handed : HandsAll (texts a copies made) writing report

-- something stopped what was asked before all was handed out, and its line was printed
pub record DidStop (a : Asked) (desk report faults : List Event) : Type 0 where
  pub refusal : Refusal
  pub stopping : List Event
  pub line : List Event
  pub faults_are : faults ≡ stopping ++ line
  pub stopped : Splices a (Err refusal) desk report stopping
  pub told : Printed (fault_line program (Err refusal)) line

-- The words ask for something, and the run ends with status 0 or 1. Then it was done, and each copy was read to its end. The status is 0
-- exactly where the picture is promised
abbrev pub SplicedRunsAreDone : Type 0
SplicedRunsAreDone =
    (words : List Text) (a : Asked) (status : ℕ) (desk report faults : List Event) → AskFor words a
    → Run words status desk report faults → status ≤ 1
    → (did : DidMake words a desk report faults) × AreWhole did.copies_read
    × (status ≡ 0 ↔ IsTrue (is_of_picture (promise_on did.made)))

-- If it ends with status 4, it was done too, and a copy was not read to its end; or something stopped it
abbrev pub FailedReadsCauseStatus4 : Type 0
FailedReadsCauseStatus4 =
    (words : List Text) (a : Asked) (status : ℕ) (desk report faults : List Event) → AskFor words a
    → Run words status desk report faults → status ≡ 4
    → ((did : DidMake words a desk report faults) × (AreWhole did.copies_read → ⊥)) ⊎ DidStop a desk report faults

-- ---- what was made

-- An undamaged file of a picture, by line or by sample, is a splice of the copies, as they are parted. No sample of it is above the
-- ceiling, if there is one
pub record IsWholeSplice (ceiling : Option ℕ) (copies : List (List ℕ)) (m : Made) (pic : WholePicture) (file : List ℕ) : Type 0 where
  pub is_picture : IsPicture pic
  pub whole : IsWholeFileUnder Wide pic file
  pub within : IsWithin ceiling file
  pub splice : IsSplice (length copies) m.found.parts file

-- the run prints that it promises the picture, with this ceiling if there is one
abbrev pub PromisesPicture : Option ℕ → Made → Type 0
PromisesPicture ceiling m = promise_on m ≡ Picture ceiling

-- What a promise of the picture stands on. The search that counts had this ceiling, was not cut off and found a file, and each line is
-- settled. The picture is that of each undamaged file that is a splice and within the ceiling
pub record IsPromised (ceiling : Option ℕ) (copies : List (List ℕ)) (m : Made) : Type 0 where
  pub of_ceiling : m.ceiling ≡ ceiling
  pub not_cut_off : m.found.is_used_up ≡ false
  pub some_file : has_some m.found.choices ≡ true
  pub settled : IsSettled m.picture
  pub no_other : (pic : WholePicture) (file : List ℕ) → IsWholeSplice ceiling copies m pic file → picture_of m.picture ≡ pic

-- Where the picture is promised, the promise stands on that, whatever the status is
abbrev pub SplicedRunsGiveNoOther : Type 0
SplicedRunsGiveNoOther =
    (words : List Text) (a : Asked) (desk report faults : List Event) (did : DidMake words a desk report faults) (ceiling : Option ℕ)
    → PromisesPicture ceiling did.made → IsPromised ceiling (bytes_read did.copies) did.made

-- The search that counts was not cut off, and an undamaged file within its ceiling is a splice, with or without its EOI. Then a file that
-- `--file` gives is that file with its EOI. Where `--files` gives fewer than 64 files, it is among them
abbrev pub SplicedRunsHandOutTheFile : Type 0
SplicedRunsHandOutTheFile =
    (words : List Text) (a : Asked) (desk report faults : List Event) (did : DidMake words a desk report faults)
    → did.made.found.is_used_up ≡ false
    → (pic : WholePicture) (part whole : List ℕ) → IsWholeSplice did.made.ceiling (bytes_read did.copies) did.made pic part
    → IsCompleted part whole
    → ((name file : List ℕ) → a.options.file ≡ Some name → did.made.single ≡ Some file → file ≡ whole)
    × ((prefix : List ℕ) → a.options.files ≡ Some prefix → length did.made.files < 64 → is_named did.made.files whole ≡ true)

-- If a cut file was taken, all other choices for its parts are dead, and the picture is what a station holds that took the copies, the
-- splices found and the cut file
abbrev pub SplicedRunsTakeTheCut : Type 0
SplicedRunsTakeTheCut =
    (words : List Text) (a : Asked) (desk report faults : List Event) (did : DidMake words a desk report faults)
    → (path : List ℕ) → did.made.cut ≡ Some path
    → WereCut did.made.cut_ceiling (bytes_read did.copies) did.made.found.parts path a.options.source did.made.picture
