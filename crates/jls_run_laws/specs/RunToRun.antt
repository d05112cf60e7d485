-- The headline, and never another picture, over whole runs of the program.
use Rattle.std.specs.Prelude.{◌≡◌, ◌≤◌, ◌<◌, ◌^◌, ℕ, Bool, List, [], ◌∷◌, Option, Some}
use Rattle.std.specs.List.{AllByRecursion}
use Rattle.clap.specs.Words.{Text}
use Rattle.jls_partial.specs.Partial.{PartialPicture}
use Rattle.jls_partial.specs.Text.{text}
use Rattle.jls_io.specs.Event.{Event, History}
use Rattle.jls_write.specs.Picture.{WholePicture}
use Rattle.jls_write.specs.WholePictures.{IsPicture}
use Rattle.jls_salvage_run.specs.CommandLaws.{input_bytes, output_bytes}
use Rattle.jls_salvage_run.specs.WritingFiles.{file}
use Rattle.jls_salvage_run.specs.declared.writing.Format.{Format}
use Rattle.jls_salvage_run.specs.declared.writing.Format.TheVariants.{Jls}
use Rattle.jls_cli.specs.SalvageAsking.{AskFor, join}
use Rattle.jls_salvage_run.specs.RunLaws.{written_as}
use Rattle.jls_salvage_run.specs.Runs.{Ran}
use Rattle.jls_headline.specs.Damaged.{Damaged, EachLineSurvives}
use Rattle.jls_run_laws.specs.NoOtherLaws.{SomeInputHasEachLine}
use Rattle.jls_headline.specs.ReadsAs.{GivesPicture, ReadsAsOnly}

-- a run over these words ended with this status, and the desk did these events in it
pub record RanOver (words : List Text) (status : ℕ) (events : List Event) : Type 0 where
  pub desk : History
  pub desk' : History
  pub report : History
  pub report' : History
  pub faults : History
  pub faults' : History
  pub ran : Ran words status desk desk' report report' faults faults'
  pub they_are : ran.desk_events ≡ events

-- a run whose words ask for a join ended with this status, 0 or 1. Its inputs gave damaged copies of this picture, and every line survives
-- in some input. A source of the program has 32 bits
pub record JoinRun (pic : WholePicture) (status : ℕ) (joining : List Event) : Type 0 where
  pub is_picture : IsPicture pic
  pub words : List Text
  pub ran : RanOver words status joining
  pub source : Option ℕ
  pub small : (number : ℕ) → source ≡ Some number → number < 2 ^ 32
  pub out : Text
  pub names : List Text
  pub asks : AskFor words (join source out names)
  pub ended : status ≤ 1
  pub damaged : AllByRecursion (Damaged pic) (input_bytes joining)
  pub each_line : EachLineSurvives pic (input_bytes joining)

-- a run whose words ask for a file in this format ended with status 0
pub record WriteRun (format : Format) (writing : List Event) : Type 0 where
  pub words : List Text
  pub ran : RanOver words 0 writing
  pub out : Text
  pub name : Text
  pub asks : AskFor words (written_as format out name)

-- let the one input of the `write` have given the bytes that the `join` handed to its one output. Then each line was settled there, and the
-- `write` handed the file of that picture to its output
abbrev pub JoinsAndWritesGiveThePicture : Type 0
JoinsAndWritesGiveThePicture =
    (pic : WholePicture) (status : ℕ) (joining : List Event) → JoinRun pic status joining
    → (format : Format) (writing : List Event) → WriteRun format writing → input_bytes writing ≡ output_bytes joining
    → (status ≡ 0) × (output_bytes writing ≡ file format pic ∷ [])

-- as JPEG-LS, with any restart interval, what the `write` handed to its output reads as that picture and as no other
abbrev pub JoinsAndWritesReadAsThePicture : Type 0
JoinsAndWritesReadAsThePicture =
    (pic : WholePicture) (status : ℕ) (joining : List Event) → JoinRun pic status joining
    → (line : Bool) (ri : ℕ) → ri < 2 ^ 32 → (writing : List Event) → WriteRun (Jls line ri) writing
    → input_bytes writing ≡ output_bytes joining
    → (bytes : List ℕ) × (output_bytes writing ≡ bytes ∷ []) × ReadsAsOnly bytes pic

-- let a run of `join` end with status 0, and some input have each line of a picture, whatever its other inputs are or read as. Then what it
-- joined is that picture, and its output was handed the text of it
abbrev pub SettledRunsAreThePicture : Type 0
SettledRunsAreThePicture =
    (words : List Text) (events : List Event) → RanOver words 0 events
    → (source : Option ℕ) (out : Text) (names : List Text) → AskFor words (join source out names)
    → (pic : WholePicture) → IsPicture pic → SomeInputHasEachLine pic (input_bytes events)
    → (joined : PartialPicture) × GivesPicture joined pic × (output_bytes events ≡ text joined ∷ [])

-- let a run of `write` end with status 0 whose input has each line of a picture. Then it handed the file of that picture to its output
abbrev pub WrittenRunsAreThePicture : Type 0
WrittenRunsAreThePicture =
    (format : Format) (events : List Event) → WriteRun format events
    → (pic : WholePicture) → IsPicture pic → SomeInputHasEachLine pic (input_bytes events)
    → output_bytes events ≡ file format pic ∷ []
