-- What a run did that ends with status 4, though nothing failed in it but reads.
use Rattle.std.specs.Prelude.{◌≡◌, ◌≤◌, ◌||◌, ◌⊎◌, ℕ, Bool, true, false, List, [], ◌∷◌, ◌++◌, Option, None}
use Rattle.std.specs.List.{list_any}
use Rattle.clap.specs.Words.{Text}
use Rattle.jls_partial.specs.Partial.{PartialPicture}
use Rattle.jls_partial.specs.Status.{IsSettled}
use Rattle.jls_write.specs.Picture.{picture_of}
use Rattle.jls_io.specs.Event.{Event, History, opened, is_failed_opening, is_failed_write}
use Rattle.jls_io.specs.Writing.{Wrote}
use Rattle.jls_station.specs.Given.{Given}
use Rattle.jls_station.specs.Inputs.{IsEnough, IsRefused}
use Rattle.jls_salvage_run.specs.AllInputs.{EndsAt, IsTaken}
use Rattle.jls_salvage_run.specs.Joining.{JoinIsDone}
use Rattle.jls_io.specs.Outputs.{HandsOut}
use Rattle.jls_station.specs.Reading.{IsRead}
use Rattle.jls_station.specs.declared.input.InputFault.{InputFault}
use Rattle.jls_station.specs.declared.input.ReadStop.{ReadStop}
use Rattle.jls_station.specs.declared.input.ReadStop.TheVariants.{Whole}
use Rattle.jls_salvage_run.specs.Reporting.{lines}
use Rattle.jls_salvage_run.specs.WritingFiles.{file, FitsFormat}
use Rattle.jls_salvage_run.specs.declared.writing.Format.{Format}
use Rattle.jls_salvage_run.specs.declared.writing.Format.TheVariants.{Pnm, Jls}
use Rattle.jls_cli.specs.SalvageAsking.{Asked, check, join, show, write_pnm, write_jls, AskFor}
use Rattle.jls_salvage_run.specs.Runs.{Ran}
use Rattle.jls_salvage_run.specs.Statuses.{source_of, inputs_of}

-- the status of a run is at most 5
abbrev pub StatusesAreAtMost5 : Type 0
StatusesAreAtMost5 =
    (words : List Text) (status : ℕ) (desk desk' report report' faults faults' : History)
    → Ran words status desk desk' report report' faults faults' → status ≤ 5

-- an input was not opened, an output was not created, or a write failed
abbrev pub is_other_failure : Event → Bool
is_other_failure e = is_failed_opening e || is_failed_write e

-- no opening, creation or write among these events failed
abbrev pub NothingElseFailed : List Event → Type 0
NothingElseFailed events = list_any is_other_failure events ≡ false

-- an input was taken, though not read whole, and exactly the lines of what was read were printed
pub record TellsInPart (traced : Bool) (name : Text) (desk report : List Event) : Type 0 where
  pub g : Given
  pub taken : IsTaken None name g desk
  pub in_part : g.stop ≡ Whole → ⊥
  pub printed : Wrote (lines traced g) report

-- inputs were taken, one at least not read whole, and the output was handed the text of all that was read
pub record JoinsInPart (source : Option ℕ) (out : Text) (names : List Text) (desk : List Event) : Type 0 where
  pub joined : PartialPicture
  pub settled : Bool
  pub is_done : JoinIsDone source out names joined settled false desk

-- an input was taken, though not read whole; each line is settled, and the output was handed the file of what was read
pub record WritesInPart (f : Format) (out name : Text) (desk : List Event) : Type 0 where
  pub g : Given
  pub reading : List Event
  pub writing : List Event
  pub events_are : desk ≡ reading ++ writing
  pub taken : IsTaken None name g reading
  pub in_part : g.stop ≡ Whole → ⊥
  pub settled : IsSettled g.partial
  pub fits : FitsFormat f (picture_of g.partial)
  pub handed : HandsOut out (file f (picture_of g.partial)) writing

-- what was asked for was done with all that was read, by the events of the desk and of the report output
abbrev pub DoneInPart : Asked → List Event → List Event → Type 0
DoneInPart (check name) desk report = TellsInPart true name desk report
DoneInPart (join source out names) desk report = JoinsInPart source out names desk × (report ≡ [])
DoneInPart (show name) desk report = TellsInPart false name desk report
DoneInPart (write_pnm out name) desk report = WritesInPart Pnm out name desk × (report ≡ [])
DoneInPart (write_jls line ri out name) desk report = WritesInPart (Jls line ri) out name desk × (report ≡ [])

-- an input of this name was opened and not read whole. What was read of it begins as a text, or no frame is taken in it
pub record IsUnread (name : Text) (events : List Event) : Type 0 where
  pub bytes : List ℕ
  pub stop : ReadStop
  pub f : InputFault
  pub reads : List Event
  pub events_are : events ≡ opened name ∷ reads
  pub is_read : IsRead IsEnough reads bytes stop
  pub in_part : stop ≡ Whole → ⊥
  pub refused : IsRefused bytes stop f

-- the inputs before an input like `IsUnread` were taken, and nothing else was done
abbrev pub EndsAtUnread : Option ℕ → List Text → List Event → Type 0
EndsAtUnread = EndsAt (λ _. IsUnread)

-- let a run end with status 4, let all be opened and created, and let no write fail. Then its words ask for something, and that was done
-- with all that was read, though not all was. Or an input was not read whole that is refused for it, and nothing was reported
abbrev pub BrokenReadsCauseStatus4 : Type 0
BrokenReadsCauseStatus4 =
    (words : List Text) (status : ℕ) (desk desk' report report' faults faults' : History)
    → (ran : Ran words status desk desk' report report' faults faults')
    → status ≡ 4 → NothingElseFailed ran.desk_events → NothingElseFailed ran.report_events
    → (asked : Asked) × AskFor words asked × (DoneInPart asked ran.desk_events ran.report_events
    ⊎ (EndsAtUnread (source_of asked) (inputs_of asked) ran.desk_events × (ran.report_events ≡ [])))
