-- The headline through the text that a run of `join` hands out: what a run of `write` makes of it.
use Rattle.std.specs.Borrow.{Bor}
use Rattle.std.specs.Prelude.{Err, ◌≡◌, ℕ, ◌<◌, ◌^◌, Bool, List, [], ◌∷◌, Some}
use Rattle.std.specs.List.{AllByRecursion}
use Rattle.jls_io.specs.Event.{Event}
use Rattle.jls_write.specs.Picture.{WholePicture}
use Rattle.jls_salvage_run.specs.CommandLaws.{input_bytes, output_bytes}
use Rattle.jls_cli.specs.Outcomes.{Outcome, finished, refusal_at}
use Rattle.jls_cli.specs.declared.outcome.Cause.TheVariants.{Unsettled}
use Rattle.jls_salvage_run.specs.WritingFiles.{file, WritesFile}
use Rattle.jls_salvage_run.specs.declared.writing.Format.{Format}
use Rattle.jls_salvage_run.specs.declared.writing.Format.TheVariants.{Jls}
use Rattle.jls_headline.specs.Damaged.{Damaged, EachLineSurvives}
use Rattle.jls_write.specs.WholePictures.{IsPicture}
use Rattle.jls_headline.specs.ReadsAs.{ReadsAsOnly}
use Rattle.jls_run_laws.specs.RunLaws.{DoneJoin, InputsStandFor}
use Rattle.jls_headline.specs.Sources.{SourcedCopy, copies_of}

-- the inputs of this run of `join` gave damaged copies of this picture, and every line survives in some input. A source of the program has
-- 32 bits
pub record JoinsDamagedCopies (pic : WholePicture) (run : DoneJoin) : Type 0 where
  pub is_picture : IsPicture pic
  pub small : (number : ℕ) → run.source ≡ Some number → number < 2 ^ 32
  pub damaged : AllByRecursion (Damaged pic) (input_bytes run.events)
  pub each_line : EachLineSurvives pic (input_bytes run.events)

-- its inputs, copies and texts, stand for damaged copies of this picture, and every line survives in some of these
pub record JoinsForDamagedCopies (pic : WholePicture) (run : DoneJoin) : Type 0 where
  pub is_picture : IsPicture pic
  pub small : (number : ℕ) → run.source ≡ Some number → number < 2 ^ 32
  pub copies : List SourcedCopy
  pub stand : InputsStandFor run.source (input_bytes run.events) copies
  pub damaged : AllByRecursion (Damaged pic) (copies_of copies)
  pub each_line : EachLineSurvives pic (copies_of copies)

-- a run of `write` in this format, and what came of it: its one input gave the bytes that the run of `join` handed to its one output
pub record WritesWhatWasJoined (joining : List Event) (format : Format) (outcome : Outcome) (writing : List Event) : Type 0 where
  pub out : List ℕ
  pub name : List ℕ
  pub writes : WritesFile format out name outcome writing
  pub same_bytes : input_bytes writing ≡ output_bytes joining

-- Let `Joins` say this of a run of `join`. Where such a `write` is done, it handed the file of that picture to its output
abbrev pub WritesThePictureAfter : (WholePicture → DoneJoin → Type 0) → Type 0
WritesThePictureAfter Joins =
    (pic : WholePicture) (run : DoneJoin) → Joins pic run
    → (format : Format) (settled whole : Bool) (writing : List Event)
    → WritesWhatWasJoined run.events format (finished settled whole) writing
    → output_bytes writing ≡ file format pic ∷ []

-- and as JPEG-LS, with any restart interval, what it handed to its output reads as that picture and as no other
abbrev pub ReadsAsThePictureAfter : (WholePicture → DoneJoin → Type 0) → Type 0
ReadsAsThePictureAfter Joins =
    (pic : WholePicture) (run : DoneJoin) → Joins pic run
    → (line : Bool) (ri : ℕ) → ri < 2 ^ 32 → (settled whole : Bool) (writing : List Event)
    → WritesWhatWasJoined run.events (Jls line ri) (finished settled whole) writing
    → (bytes : List ℕ) × (output_bytes writing ≡ bytes ∷ []) × ReadsAsOnly bytes pic

-- No such `write` is refused for a line that is not settled
abbrev pub IsSettledAfter : (WholePicture → DoneJoin → Type 0) → Type 0
IsSettledAfter Joins =
    (pic : WholePicture) (run : DoneJoin) → Joins pic run
    → (format : Format) (name : Bor (List ℕ)) (id line : ℕ) (disputed : Bool) (writing : List Event)
    → WritesWhatWasJoined run.events format (Err (refusal_at name (Unsettled id line disputed))) writing → ⊥
