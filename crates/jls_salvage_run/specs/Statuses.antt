-- What the exit statuses 2 to 5 of a run mean.
use Rattle.std.specs.Prelude.{◌≡◌, ◌≤◌, ◌⊎◌, ℕ, Bool, false, List, [], ◌∷◌, Option, None}
use Rattle.std.specs.List.{list_any}
use Rattle.clap.specs.Words.{Text}
use Rattle.clap.specs.declared.error.kind.ErrorKind.{ErrorKind}
use Rattle.jls_partial.specs.Status.{IsSettled}
use Rattle.jls_write.specs.Picture.{picture_of}
use Rattle.jls_io.specs.Event.{Event, History, GrewBy, opened, is_creation}
use Rattle.jls_io.specs.Writing.{Printed}
use Rattle.jls_station.specs.Given.{Given}
use Rattle.jls_station.specs.Inputs.{IsEnough, IsRefused}
use Rattle.jls_salvage_run.specs.AllInputs.{EndsAt, IsOfOtherShape, IsTaken, partials}
use Rattle.jls_station.specs.Reading.{HadFailure, IsRead}
use Rattle.jls_station.specs.declared.input.InputFault.{InputFault}
use Rattle.jls_station.specs.declared.input.ReadStop.TheVariants.{Whole}
use Rattle.jls_salvage_run.specs.WritingFiles.{IsTooLarge}
use Rattle.jls_salvage_run.specs.declared.writing.Format.TheVariants.{Jls}
use Rattle.jls_io.specs.FaultLines.{out_of_memory_line}
use Rattle.jls_cli.specs.Answers.{is_help}
use Rattle.jls_cli.specs.SalvageWords.{AreRefused}
use Rattle.jls_cli.specs.SalvageAsking.{Asked, check, join, show, write_pnm, write_jls, AskFor, AskForNothing}
use Rattle.jls_salvage_run.specs.FaultLines.{program}
use Rattle.jls_salvage_run.specs.Runs.{Ran}

-- if a run ends with status 4, one of two things happened. The desk or the report output failed in it, or so many reads were made as one
-- input can have
abbrev pub FailuresCauseStatus4 : Type 0
FailuresCauseStatus4 =
    (words : List Text) (status : ℕ) (desk desk' report report' faults faults' : History)
    → (ran : Ran words status desk desk' report report' faults faults')
    → status ≡ 4 → HadFailure ran.desk_events ⊎ HadFailure ran.report_events

-- if it ends with status 2 or 3, no output was created, and nothing was reported
abbrev pub RefusedRunsCreateNothing : Type 0
RefusedRunsCreateNothing =
    (words : List Text) (status : ℕ) (desk desk' report report' faults faults' : History)
    → (ran : Ran words status desk desk' report report' faults faults')
    → 2 ≤ status → status ≤ 3 → (list_any is_creation ran.desk_events ≡ false) × (report' ≡ report)

-- if it ends with status 5, the line that memory ran out was printed as a fault
abbrev pub WantOfMemoryIsReported : Type 0
WantOfMemoryIsReported =
    (words : List Text) (status : ℕ) (desk desk' report report' faults faults' : History)
    → (ran : Ran words status desk desk' report report' faults faults')
    → status ≡ 5 → Printed (out_of_memory_line program) ran.fault_events

-- clap refuses the words, and not to show help or the version
abbrev pub AreMisused : List Text → Type 0
AreMisused words = (k : ErrorKind) × AreRefused words k × (is_help k ≡ false)

-- the words ask for the JPEG-LS file of what one input gives; it was taken, and nothing else was done; each line of it is settled, and an
-- interval of the file would have more than 2^28 samples
pub record AskForTooMuch (words : List Text) (desk desk' : History) : Type 0 where
  pub line : Bool
  pub rows : ℕ
  pub out : Text
  pub name : Text
  pub asked : AskFor words (write_jls line rows out name)
  pub g : Given
  pub taken : GrewBy (IsTaken None name g) desk desk'
  pub settled : IsSettled g.partial
  pub too_large : IsTooLarge (Jls line rows) (picture_of g.partial)

-- if a run ends with status 2, it is for its words. clap refuses them, they ask for nothing, or for a file whose intervals would be too
-- large
abbrev pub WordsCauseStatus2 : Type 0
WordsCauseStatus2 =
    (words : List Text) (status : ℕ) (desk desk' report report' faults faults' : History)
    → Ran words status desk desk' report report' faults faults'
    → status ≡ 2 → AreMisused words ⊎ (AskForNothing words ⊎ AskForTooMuch words desk desk')

-- the source under which copies are taken, if there is one
abbrev pub source_of : Asked → Option ℕ
source_of (join source out names) = source
source_of _ = None

-- the names of the FILEs that the words ask for
abbrev pub inputs_of : Asked → List Text
inputs_of (check name) = name ∷ []
inputs_of (join source out names) = names
inputs_of (show name) = name ∷ []
inputs_of (write_pnm out name) = name ∷ []
inputs_of (write_jls line rows out name) = name ∷ []

-- an input of this name, after those that gave the list, was opened and read whole. Its bytes are refused: they begin as a text and are
-- none, or no frame is taken in them. Or what it gave has another shape than the first
pub data IsUnfit : Option ℕ → List Given → Text → List Event → Type 0 where
  no_picture : (source : Option ℕ) (before : List Given) (name : Text) (bytes : List ℕ) (f : InputFault) (reads : List Event)
      → IsRead IsEnough reads bytes Whole → IsRefused bytes Whole f → IsUnfit source before name (opened name ∷ reads)
  other_shape : (source : Option ℕ) (before : List Given) (name : Text) (g : Given) (events : List Event)
      → IsTaken source name g events → IsOfOtherShape (partials before) g.partial → IsUnfit source before name events

-- the inputs before one of these were taken, that one is unfit, and nothing else was done
abbrev pub EndsAtUnfit : Option ℕ → List Text → List Event → Type 0
EndsAtUnfit source = EndsAt (IsUnfit source) source

-- if a run ends with status 3, it is for what an input is that its words name
abbrev pub InputsCauseStatus3 : Type 0
InputsCauseStatus3 =
    (words : List Text) (status : ℕ) (desk desk' report report' faults faults' : History)
    → Ran words status desk desk' report report' faults faults'
    → status ≡ 3 → (asked : Asked) × AskFor words asked × GrewBy (EndsAtUnfit (source_of asked) (inputs_of asked)) desk desk'
