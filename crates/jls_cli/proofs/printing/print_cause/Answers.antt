use Rattle.std.proofs.Common.{sym, subst}
use Rattle.jls_io.specs.Event.{GrewBy}
use Rattle.jls_io.specs.Writing.{Printed}
use Rattle.jls_cli.specs.FaultLines.{cause_line}
use Rattle.jls_cli.specs.declared.outcome.Cause.{Cause}
use Rattle.jls_cli.proofs.printing.print_cause.Goals as goal

pub returns-in-NoPicture : goal.returns-in-NoPicture
returns-in-NoPicture g c =
    let history = g.E.Device.history in
    subst (λ (cause : Cause). GrewBy (Printed (cause_line c.args.program.now c.args.name.now cause)) (history c.args.faults.now)
    (history c.print_no_frame.new.faults)) (sym c.in-NoPicture.is) c.print_no_frame.ensures

pub returns-in-NotCreated : goal.returns-in-NotCreated
returns-in-NotCreated g c =
    let history = g.E.Device.history in
    subst (λ (cause : Cause). GrewBy (Printed (cause_line c.args.program.now c.args.name.now cause)) (history c.args.faults.now)
    (history c.print_not_created.new.faults)) (sym c.in-NotCreated.is) c.print_not_created.ensures

pub returns-in-FileNotCreated : goal.returns-in-FileNotCreated
returns-in-FileNotCreated g c =
    let history = g.E.Device.history in
    subst (λ (cause : Cause). GrewBy (Printed (cause_line c.args.program.now c.args.name.now cause)) (history c.args.faults.now)
    (history c.print_file_not_created.new.faults)) (sym c.in-FileNotCreated.is) c.print_file_not_created.ensures

pub returns-in-FileNotWritten : goal.returns-in-FileNotWritten
returns-in-FileNotWritten g c =
    let history = g.E.Device.history in
    subst (λ (cause : Cause). GrewBy (Printed (cause_line c.args.program.now c.args.name.now cause)) (history c.args.faults.now)
    (history c.print_file_not_written.new.faults)) (sym c.in-FileNotWritten.is) c.print_file_not_written.ensures

pub returns-in-NotWritten : goal.returns-in-NotWritten
returns-in-NotWritten g c =
    let history = g.E.Device.history in
    subst (λ (cause : Cause). GrewBy (Printed (cause_line c.args.program.now c.args.name.now cause)) (history c.args.faults.now)
    (history c.print_not_written.new.faults)) (sym c.in-NotWritten.is) c.print_not_written.ensures

pub returns-in-Input : goal.returns-in-Input
returns-in-Input g c =
    let history = g.E.Device.history in
    subst (λ (cause : Cause). GrewBy (Printed (cause_line c.args.program.now c.args.name.now cause)) (history c.args.faults.now)
    (history c.print_input_fault.new.faults)) (sym c.in-Input.is) c.print_input_fault.ensures

pub returns-in-Unsettled : goal.returns-in-Unsettled
returns-in-Unsettled g c =
    let history = g.E.Device.history in
    subst (λ (cause : Cause). GrewBy (Printed (cause_line c.args.program.now c.args.name.now cause)) (history c.args.faults.now)
    (history c.print_unsettled.new.faults)) (sym c.in-Unsettled.is) c.print_unsettled.ensures
