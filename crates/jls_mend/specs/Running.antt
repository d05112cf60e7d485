-- A run of the program over inputs in memory.
use Rattle.std.specs.Prelude.{◌≡◌, ℕ, List, [], ◌∷◌, map}
use Rattle.std.specs.String.{string_bytes}
use Rattle.jls_io.specs.Event.{Event, created}
use Rattle.jls_io.specs.Writing.{Printed}
use Rattle.jls_memory.specs.Files.{File}
use Rattle.jls_memory.specs.Held.{output_files}
use Rattle.jls_memory.specs.Inputs.{ReadsComeFrom}
use Rattle.jls_memory.specs.Outputs.{outputs_of}
use Rattle.jls_cli.specs.FaultLines.{fault_line}
use Rattle.jls_cli.specs.SpliceAsking.{Asked}
use Rattle.jls_splice_run.specs.FaultLines.{program}
use Rattle.jls_splice_run.specs.Runs.{Splices}
use Rattle.jls_mend.specs.Asking.{BadPlaces, inputs_of, lists_of, names_in, values_of}
use Rattle.jls_mend.specs.declared.naming.Names.{Names}
use Rattle.jls_mend.specs.declared.running.Ran.{Ran}

-- these are the names of the copies and of the lists, and the values of `--bad` that name the lists
pub record AreNames (names : Names) (copies : List (List ℕ)) (bad : List BadPlaces) : Type 0 where
  pub of_copies : map string_bytes names.copies.items ≡ names_in (inputs_of copies)
  pub of_lists : map string_bytes names.lists.items ≡ names_in (lists_of bad)
  pub values_are : map string_bytes names.values.items ≡ values_of bad

-- This came of what was asked, by the events of the desk, of the report output and of the fault output, whose last line is told. The reads
-- of the desk come from the inputs. The outputs hold what the run handed to each, and the report output what was printed
pub record IsRun (a : Asked) (inputs : List File) (ran : Ran) : Type 0 where
  pub desk : List Event
  pub report : List Event
  pub faults : List Event
  pub line : List Event
  pub splices : Splices a ran.outcome desk report faults
  pub told : Printed (fault_line program ran.outcome) line
  pub reads : ReadsComeFrom inputs desk
  pub outputs_are : output_files ran.outputs.items ≡ outputs_of desk
  pub printed_are : output_files ran.printed.items ≡ outputs_of (created [] ∷ report)
