use Rattle.std.proofs.Common.{sym, subst}
use Rattle.jls_io.specs.Event.{GrewBy}
use Rattle.jls_io.specs.Writing.{Printed}
use Rattle.jls_station.specs.declared.input.InputFault.{InputFault}
use Rattle.jls_cli.specs.FaultLines.{input_fault_line}
use Rattle.jls_cli.proofs.printing.print_input_fault.Goals as goal

pub returns-in-Text : goal.returns-in-Text
returns-in-Text g c =
    let history = g.E.Device.history in
    subst (λ (f : InputFault). GrewBy (Printed (input_fault_line c.args.program.now c.args.name.now f)) (history c.args.faults.now)
    (history c.print_text_fault.new.faults)) (sym c.in-Text.is) c.print_text_fault.ensures

pub returns-in-NoPicture : goal.returns-in-NoPicture
returns-in-NoPicture g c =
    let history = g.E.Device.history in
    subst (λ (f : InputFault). GrewBy (Printed (input_fault_line c.args.program.now c.args.name.now f)) (history c.args.faults.now)
    (history c.print_no_frame.new.faults)) (sym c.in-NoPicture.is) c.print_no_frame.ensures

pub returns-in-Read : goal.returns-in-Read
returns-in-Read g c =
    let history = g.E.Device.history in
    subst (λ (f : InputFault). GrewBy (Printed (input_fault_line c.args.program.now c.args.name.now f)) (history c.args.faults.now)
    (history c.print_about.new.faults)) (sym c.in-Read.is) c.print_about.ensures

pub returns-in-OutOfMemory : goal.returns-in-OutOfMemory
returns-in-OutOfMemory g c =
    let history = g.E.Device.history in
    subst (λ (f : InputFault). GrewBy (Printed (input_fault_line c.args.program.now c.args.name.now f)) (history c.args.faults.now)
    (history c.print_out_of_memory.new.faults)) (sym c.in-OutOfMemory.is) c.print_out_of_memory.ensures
