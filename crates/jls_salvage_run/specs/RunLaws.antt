-- The laws of whole runs.
use Rattle.std.specs.Prelude.{◌≡◌, ◌≤◌, ◌↔◌, ℕ, Bool, true, false, List, ◌++◌, Option, None}
use Rattle.clap.specs.Words.{Text}
use Rattle.jls_partial.specs.Partial.{PartialPicture}
use Rattle.jls_partial.specs.Status.{IsSettled}
use Rattle.jls_write.specs.Picture.{picture_of}
use Rattle.jls_io.specs.Event.{Event, History, GrewBy}
use Rattle.jls_io.specs.Writing.{Wrote}
use Rattle.jls_station.specs.Given.{Given}
use Rattle.jls_salvage_run.specs.AllInputs.{IsTaken}
use Rattle.jls_salvage_run.specs.Joining.{JoinIsDone}
use Rattle.jls_io.specs.Outputs.{HandsOut}
use Rattle.jls_station.specs.declared.input.ReadStop.TheVariants.{Whole}
use Rattle.jls_salvage_run.specs.Reporting.{lines}
use Rattle.jls_salvage_run.specs.WritingFiles.{file, FitsFormat}
use Rattle.jls_salvage_run.specs.declared.writing.Format.{Format}
use Rattle.jls_salvage_run.specs.declared.writing.Format.TheVariants.{Pnm, Jls}
use Rattle.jls_cli.specs.SalvageAsking.{Asked, AskFor, check, join, show, write_pnm, write_jls}
use Rattle.jls_salvage_run.specs.Runs.{Ran}

-- a run of `join` under a source, or under none, that is done, as the history of the desk has it
pub record JoinRan (source : Option ℕ) (out : Text) (names : List Text) (joined : PartialPicture) (status : ℕ) (desk desk' : History)
    : Type 0 where
  pub settled : Bool
  pub events : List Event
  pub grew : desk' ≡ desk ++ events
  pub is_done : JoinIsDone source out names joined settled true events
  pub status_is : (status ≡ 0) ↔ IsSettled joined

-- if the words ask for a join and the status is 0 or 1, the join is done under the source that they name. The status is 0 if and only if
-- each line is settled. Nothing is reported or printed
abbrev pub DoneJoinsRan : Type 0
DoneJoinsRan =
    (words : List Text) (status : ℕ) (desk desk' report report' faults faults' : History)
    → Ran words status desk desk' report report' faults faults'
    → (source : Option ℕ) (out : Text) (names : List Text) → AskFor words (join source out names) → status ≤ 1
    → (joined : PartialPicture) × JoinRan source out names joined status desk desk' × (report' ≡ report) × (faults' ≡ faults)

-- a run of `check` or `show` that is done: the input was read whole, and nothing else was done with the desk; the report output was
-- handed exactly the trace of what the input gave, if that was asked for, and its report
pub record TellRan (traced : Bool) (name : Text) (g : Given) (status : ℕ) (desk desk' report report' : History) : Type 0 where
  pub taken : GrewBy (IsTaken None name g) desk desk'
  pub whole : g.stop ≡ Whole
  pub printed : GrewBy (Wrote (lines traced g)) report report'
  pub status_is : (status ≡ 0) ↔ IsSettled g.partial

-- if the words ask for this of an input and the status is 0 or 1, it is printed. The status is 0 if and only if each line is settled. No
-- fault is printed
abbrev pub DoneTellsRan : Bool → (Text → Asked) → Type 0
DoneTellsRan traced asked =
    (words : List Text) (status : ℕ) (desk desk' report report' faults faults' : History)
    → Ran words status desk desk' report report' faults faults'
    → (name : Text) → AskFor words (asked name) → status ≤ 1
    → (g : Given) × TellRan traced name g status desk desk' report report' × (faults' ≡ faults)

-- that of words that ask for a trace and a report
abbrev pub DoneChecksRan : Type 0
DoneChecksRan = DoneTellsRan true check

-- and of words that ask for a report
abbrev pub DoneShowsRan : Type 0
DoneShowsRan = DoneTellsRan false show

-- words that ask for a file in this format
abbrev pub written_as : Format → Text → Text → Asked
written_as Pnm out name = write_pnm out name
written_as (Jls line ri) out name = write_jls line ri out name

-- a run of `write` that is done: the input was read whole, each of its lines is settled, and the options fit the picture; then the output
-- was created, and handed exactly the file of the picture
pub record WriteRan (f : Format) (out name : Text) (g : Given) (desk desk' : History) : Type 0 where
  pub reading : List Event
  pub writing : List Event
  pub grew : desk' ≡ desk ++ (reading ++ writing)
  pub taken : IsTaken None name g reading
  pub whole : g.stop ≡ Whole
  pub settled : IsSettled g.partial
  pub fits : FitsFormat f (picture_of g.partial)
  pub handed : HandsOut out (file f (picture_of g.partial)) writing

-- if the words ask for a file and the status is 1, the input was taken, and nothing else was done with the desk. So no output was created.
-- A line of what the input gave is not settled
abbrev pub UnsettledWritesStop : Type 0
UnsettledWritesStop =
    (words : List Text) (status : ℕ) (desk desk' report report' faults faults' : History)
    → Ran words status desk desk' report report' faults faults'
    → (f : Format) (out name : Text) → AskFor words (written_as f out name) → status ≡ 1
    → (g : Given) × GrewBy (IsTaken None name g) desk desk' × (IsSettled g.partial → ⊥)

-- if the words ask for a file and the status is 0, it is written; and nothing is reported or printed
abbrev pub DoneWritesRan : Type 0
DoneWritesRan =
    (words : List Text) (status : ℕ) (desk desk' report report' faults faults' : History)
    → Ran words status desk desk' report report' faults faults'
    → (f : Format) (out name : Text) → AskFor words (written_as f out name) → status ≡ 0
    → (g : Given) × WriteRan f out name g desk desk' × (report' ≡ report) × (faults' ≡ faults)
