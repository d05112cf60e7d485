-- What a run of the program is.
use Rattle.std.specs.Prelude.{◌≡◌, ℕ, true, false, List, [], ◌++◌, codes}
use Rattle.clap.specs.Words.{Text}
use Rattle.clap.specs.declared.error.kind.ErrorKind.{ErrorKind}
use Rattle.jls_io.specs.Event.{Event, History}
use Rattle.jls_io.specs.Writing.{Wrote, WrotePrefix, Printed}
use Rattle.jls_salvage_run.specs.Joining.{Joins}
use Rattle.jls_cli.specs.Outcomes.{Outcome, exit_status}
use Rattle.jls_salvage_run.specs.Reporting.{PrintsReport, lines}
use Rattle.jls_salvage_run.specs.WritingFiles.{WritesFile}
use Rattle.jls_salvage_run.specs.declared.writing.Format.TheVariants.{Pnm, Jls}
use Rattle.jls_io.specs.FaultLines.{not_written_line, out_of_memory_line}
use Rattle.jls_cli.specs.Answers.{is_help}
use Rattle.jls_cli.specs.SalvageWords.{AreRefused}
use Rattle.jls_cli.specs.SalvageAsking.{Asked, check, join, show, write_pnm, write_jls, AskFor, AskForNothing, format_is_known}
use Rattle.jls_cli.specs.FaultLines.{fault_line}
use Rattle.jls_salvage_run.specs.FaultLines.{program, unknown_value_line}

-- the outcome of what was asked for, by the events of the desk and of the report output
abbrev pub CameOf : Asked → Outcome → List Event → List Event → Type 0
CameOf (check name) outcome desk report = PrintsReport (lines true) name outcome desk report
CameOf (join source out names) outcome desk report = Joins source out names outcome desk × (report ≡ [])
CameOf (show name) outcome desk report = PrintsReport (lines false) name outcome desk report
CameOf (write_pnm out name) outcome desk report = WritesFile Pnm out name outcome desk × (report ≡ [])
CameOf (write_jls line ri out name) outcome desk report = WritesFile (Jls line ri) out name outcome desk × (report ≡ [])

-- a run over these words ends with this status; the events are those of the desk, of the report output and of the fault output
pub data Run : List Text → ℕ → List Event → List Event → List Event → Type 0 where
  -- the words ask for something: what came of it has the status and the fault line
  came_of : (words : List Text) (asked : Asked) (outcome : Outcome) (desk report faults : List Event)
      → AskFor words asked → CameOf asked outcome desk report → Printed (fault_line program outcome) faults
      → Run words (exit_status outcome) desk report faults
  -- clap refuses the words, and not to show help: some text, which may be any, goes to the fault output
  misused : (words : List Text) (k : ErrorKind) (usage : List ℕ) (faults : List Event)
      → AreRefused words k → is_help k ≡ false → Printed usage faults → Run words 2 [] [] faults
  -- help or the version was asked for: some text, which may be any, goes to the report output
  helped : (words : List Text) (k : ErrorKind) (help : List ℕ) (report : List Event)
      → AreRefused words k → is_help k ≡ true → Wrote help report → Run words 0 [] report []
  -- and a write failed there
  help_cut : (words : List Text) (k : ErrorKind) (help : List ℕ) (count : ℕ) (report faults : List Event)
      → AreRefused words k → is_help k ≡ true → WrotePrefix help count report
      → Printed (not_written_line program (codes "-") count) faults
      → Run words 4 [] report faults
  -- memory ran out before a command began
  nothing_begun : (words : List Text) (faults : List Event) → Printed (out_of_memory_line program) faults → Run words 5 [] [] faults
  -- clap takes the words, and they ask for nothing that there is: the line names the option whose value is at fault
  nothing_asked : (words : List Text) (faults : List Event)
      → AskForNothing words → Printed (unknown_value_line (format_is_known words)) faults → Run words 2 [] [] faults

-- the histories of the three devices grew by the events of such a run
pub record Ran (words : List Text) (status : ℕ) (desk desk' report report' faults faults' : History) : Type 0 where
  pub desk_events : List Event
  pub report_events : List Event
  pub fault_events : List Event
  pub desk_is : desk' ≡ desk ++ desk_events
  pub report_is : report' ≡ report ++ report_events
  pub faults_are : faults' ≡ faults ++ fault_events
  pub run : Run words status desk_events report_events fault_events
