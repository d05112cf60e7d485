-- Runs that end with 5 print that memory ran out.
use Rattle.std.proofs.Common.{◌≡◌, ℕ, Bool, true, false, List, Ok, Err}
use Rattle.std.proofs.Common.{subst, refl, arith}
use Rattle.jls_io.specs.Event.{Event}
use Rattle.jls_io.specs.Writing.{Printed}
use Rattle.jls_cli.specs.Outcomes.{Outcome, exit_status, status_of_cause, status_of_done, status_of_input}
use Rattle.jls_station.specs.declared.input.InputFault.{InputFault}
use Rattle.jls_station.specs.declared.input.InputFault.TheVariants as fault
use Rattle.jls_cli.specs.declared.outcome.Cause.{Cause}
use Rattle.jls_cli.specs.declared.outcome.Cause.TheVariants as cause
use Rattle.jls_io.specs.FaultLines.{out_of_memory_line}
use Rattle.jls_cli.specs.FaultLines.{cause_line, fault_line, input_fault_line}
use Rattle.jls_salvage_run.specs.FaultLines.{program}
use Rattle.jls_salvage_run.specs.Runs.{Run, came_of, misused, helped, help_cut, nothing_begun, nothing_asked}
use Rattle.jls_salvage_run.specs.Statuses.{WantOfMemoryIsReported}

line_of_input : (name : List ℕ) (f : InputFault) → status_of_input f ≡ 5 → input_fault_line program name f ≡ out_of_memory_line program
line_of_input name (fault.Text f) e = absurd (omega (arith, e))
line_of_input name (fault.NoPicture f offset) e = absurd (omega (arith, e))
line_of_input name (fault.Read stop offset) e = absurd (omega (arith, e))
line_of_input name fault.OutOfMemory e = refl

line_of_memory : (name : List ℕ) (c : Cause) → status_of_cause c ≡ 5 → cause_line program name c ≡ out_of_memory_line program
line_of_memory name cause.NotOpened e = absurd (omega (arith, e))
line_of_memory name (cause.Input f) e = line_of_input name f e
line_of_memory name cause.PartialPicture e = absurd (omega (arith, e))
line_of_memory name (cause.NoPicture f offset) e = absurd (omega (arith, e))
line_of_memory name cause.NotRead e = absurd (omega (arith, e))
line_of_memory name (cause.NoList line) e = absurd (omega (arith, e))
line_of_memory name cause.ShapeDiffers e = absurd (omega (arith, e))
line_of_memory name (cause.Unsettled id line disputed) e = absurd (omega (arith, e))
line_of_memory name cause.TooLarge e = absurd (omega (arith, e))
line_of_memory name cause.NotCreated e = absurd (omega (arith, e))
line_of_memory name (cause.NotWritten count) e = absurd (omega (arith, e))
line_of_memory name (cause.FileNotCreated number) e = absurd (omega (arith, e))
line_of_memory name (cause.FileNotWritten number count) e = absurd (omega (arith, e))
line_of_memory name cause.OutOfMemory e = refl

done_not_5 : (settled whole : Bool) → status_of_done settled whole ≡ 5 → ⊥
done_not_5 settled false e = absurd (omega (arith, e))
done_not_5 true true e = absurd (omega (arith, e))
done_not_5 false true e = absurd (omega (arith, e))

memory_line : (outcome : Outcome) → exit_status outcome ≡ 5 → fault_line program outcome ≡ out_of_memory_line program
memory_line (Ok d) e = absurd (done_not_5 d.settled d.whole e)
memory_line (Err r) e = line_of_memory r.name.now r.cause e

run_out_of_memory : (words : List (List ℕ)) (status : ℕ) (desk report faults : List Event) → Run words status desk report faults
    → status ≡ 5 → Printed (out_of_memory_line program) faults
run_out_of_memory words _ desk report faults (came_of _ asked outcome _ _ _ reads came line) e =
    subst (λ (l : List ℕ). Printed l faults) (memory_line outcome e) line
run_out_of_memory words _ _ _ faults (misused _ kind usage _ r n line) e = absurd (omega (arith, e))
run_out_of_memory words _ _ report _ (helped _ kind help _ r n wrote) e = absurd (omega (arith, e))
run_out_of_memory words _ _ report faults (help_cut _ kind help count _ _ r n wrote line) e = absurd (omega (arith, e))
run_out_of_memory words _ _ _ faults (nothing_begun _ _ line) e = line
run_out_of_memory words _ _ _ faults (nothing_asked _ _ asks line) e = absurd (omega (arith, e))

pub memory_reported : WantOfMemoryIsReported
memory_reported words status desk desk' report report' faults faults' ran e =
    run_out_of_memory words status ran.desk_events ran.report_events ran.fault_events ran.run e
