-- What comes of a command that tells what one input gave.
use Rattle.std.specs.Borrow.{Bor}
use Rattle.std.specs.Prelude.{◌≡◌, ◌↔◌, ℕ, Bool, IsTrue, List, [], ◌++◌, None, Err, codes, if◌then◌else◌}
use Rattle.jls_partial.specs.Partial.{PartialPicture}
use Rattle.jls_partial.specs.Status.{IsSettled}
use Rattle.jls_report.specs.Report.{report_of}
use Rattle.jls_report.specs.ReportText.{report_text}
use Rattle.jls_io.specs.Event.{Event}
use Rattle.jls_io.specs.Writing.{Wrote, WrotePrefix}
use Rattle.jls_station.specs.Given.{Given}
use Rattle.jls_salvage_run.specs.AllInputs.{IsTaken, StopsAt}
use Rattle.jls_station.specs.declared.input.ReadStop.TheVariants.{Whole}
use Rattle.jls_cli.specs.Outcomes.{Outcome, finished, refusal_at}
use Rattle.jls_cli.specs.declared.outcome.Refusal.{Refusal}
use Rattle.jls_cli.specs.declared.outcome.Cause.TheVariants as cause
use Rattle.jls_salvage_run.specs.Tracing.{trace_lines}

-- the lines that say what is known of a partial picture
abbrev pub report_lines : PartialPicture → List ℕ
report_lines p = report_text (report_of p)

-- what is printed of an input: its trace, if it is asked for, and its report
abbrev pub lines : Bool → Given → List ℕ
lines traced g = (if traced then trace_lines g else []) ++ report_lines g.partial

-- whether each line of what an input gave is settled, and whether it was read whole
pub record Says (g : Given) (settled whole : Bool) : Type 0 where
  pub settled_is : IsTrue settled ↔ IsSettled g.partial
  pub whole_is : IsTrue whole ↔ (g.stop ≡ Whole)

-- what comes of a command that takes one input and prints these lines of what it gave, by the events of the desk and of the report output.
-- It is done, the input stops it, memory runs out for the lines, or a write fails. That refusal names the report output
pub data PrintsReport (lines : Given → List ℕ) : List ℕ → Outcome → List Event → List Event → Type 0 where
  done : (name : List ℕ) (g : Given) (settled whole : Bool) (reading writing : List Event)
      → IsTaken None name g reading → Says g settled whole → Wrote (lines g) writing
      → PrintsReport lines name (finished settled whole) reading writing
  at_input : (name : List ℕ) (r : Refusal) (reading : List Event)
      → r.name.now ≡ name → StopsAt None [] r reading → PrintsReport lines name (Err r) reading []
  no_memory : (name : List ℕ) (file : Bor (List ℕ)) (g : Given) (reading : List Event)
      → file.now ≡ name → IsTaken None name g reading → PrintsReport lines name (Err (refusal_at file cause.OutOfMemory)) reading []
  not_printed : (name : List ℕ) (out : Bor (List ℕ)) (g : Given) (count : ℕ) (reading writing : List Event)
      → out.now ≡ codes "-" → IsTaken None name g reading → WrotePrefix (lines g) count writing
      → PrintsReport lines name (Err (refusal_at out (cause.NotWritten count))) reading writing
