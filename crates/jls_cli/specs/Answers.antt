-- How words that clap refused are answered.
use Rattle.std.specs.Prelude.{◌≡◌, ℕ, Bool, true, false, List, [], ◌++◌, codes}
use Rattle.clap.specs.declared.error.kind.ErrorKind.{ErrorKind}
use Rattle.clap.specs.declared.error.kind.ErrorKind.TheVariants as kind
use Rattle.jls_io.specs.Event.{Event, History}
use Rattle.jls_io.specs.Writing.{Wrote, WrotePrefix, Printed}
use Rattle.jls_io.specs.FaultLines.{not_written_line, out_of_memory_line}

-- clap itself ran out of memory
abbrev pub is_want_of_memory : ErrorKind → Bool
is_want_of_memory kind.OutOfMemory = true
is_want_of_memory _ = false

-- help or the version was asked for
abbrev pub is_help : ErrorKind → Bool
is_help kind.DisplayHelp = true
is_help kind.DisplayVersion = true
is_help _ = false

-- A program of this name answers an error of this kind with this status. The events are those of the report output and of the fault output
pub data Answer (program : List ℕ) : ErrorKind → ℕ → List Event → List Event → Type 0 where
  ran_out : (k : ErrorKind) (faults : List Event) → Printed (out_of_memory_line program) faults → Answer program k 5 [] faults
  usage : (k : ErrorKind) (text : List ℕ) (faults : List Event)
      → is_want_of_memory k ≡ false → is_help k ≡ false → Printed text faults → Answer program k 2 [] faults
  help : (k : ErrorKind) (text : List ℕ) (report : List Event) → is_help k ≡ true → Wrote text report → Answer program k 0 report []
  cut : (k : ErrorKind) (text : List ℕ) (count : ℕ) (report faults : List Event) → is_help k ≡ true → WrotePrefix text count report
      → Printed (not_written_line program (codes "-") count) faults → Answer program k 4 report faults

-- the histories of the two outputs grew by the events of such an answer
pub record Answered (program : List ℕ) (k : ErrorKind) (status : ℕ) (report report' faults faults' : History) : Type 0 where
  pub report_events : List Event
  pub fault_events : List Event
  pub report_is : report' ≡ report ++ report_events
  pub faults_are : faults' ≡ faults ++ fault_events
  pub answer : Answer program k status report_events fault_events
