-- What comes of a command of `jls-salvage`, or of a run of `jls-splice`, and its exit status.
use Rattle.std.specs.Borrow.{Bor}
use Rattle.std.specs.Prelude.{ℕ, Bool, true, false, List, Result, Ok, Err}
use Rattle.jls_station.specs.declared.input.InputFault.{InputFault}
use Rattle.jls_station.specs.declared.input.InputFault.TheVariants as fault
use Rattle.jls_cli.specs.declared.outcome.Cause.{Cause}
use Rattle.jls_cli.specs.declared.outcome.Cause.TheVariants as cause
use Rattle.jls_cli.specs.declared.outcome.Done.{Done}
use Rattle.jls_cli.specs.declared.outcome.Refusal.{Refusal}

-- a command is done, or refused
abbrev pub Outcome : Type 0
Outcome = Result Done Refusal

-- a command is done. Whether each line of what it made is settled, or of `jls-splice` whether the picture is promised; and whether each
-- input was read whole
abbrev pub finished : Bool → Bool → Outcome
finished settled whole = Ok (record { settled = settled; whole = whole })

-- the refusal at the input or output of this name, for this cause
abbrev pub refusal_at : Bor (List ℕ) → Cause → Refusal
refusal_at name c = record { name = name; cause = c }

-- the exit status of an input's fault, from 3 to 5. An input whose text needs memory is refused as `OutOfMemory`
abbrev pub status_of_input : InputFault → ℕ
status_of_input (fault.Text f) = 3
status_of_input (fault.NoPicture f offset) = 3
status_of_input (fault.Read stop offset) = 4
status_of_input fault.OutOfMemory = 5

-- the exit status of a cause, from 1 to 5
abbrev pub status_of_cause : Cause → ℕ
status_of_cause cause.NotOpened = 4
status_of_cause (cause.Input f) = status_of_input f
status_of_cause cause.PartialPicture = 3
status_of_cause (cause.NoPicture f offset) = 3
status_of_cause cause.NotRead = 4
status_of_cause (cause.NoList line) = 3
status_of_cause cause.ShapeDiffers = 3
status_of_cause (cause.Unsettled id line disputed) = 1
status_of_cause cause.TooLarge = 2
status_of_cause cause.NotCreated = 4
status_of_cause (cause.NotWritten count) = 4
status_of_cause (cause.FileNotCreated number) = 4
status_of_cause (cause.FileNotWritten number count) = 4
status_of_cause cause.OutOfMemory = 5

-- 4 if an input was not read whole, else 0 if all lines are settled, or the picture is promised, and 1 if not
abbrev pub status_of_done : Bool → Bool → ℕ
status_of_done settled false = 4
status_of_done true true = 0
status_of_done false true = 1

-- the exit status of what came of a command
abbrev pub exit_status : Outcome → ℕ
exit_status (Ok d) = status_of_done d.settled d.whole
exit_status (Err r) = status_of_cause r.cause
