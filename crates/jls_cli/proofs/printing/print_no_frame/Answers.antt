use Rattle.std.proofs.Common.{ℕ, ◌∙◌, subst}
use Rattle.jls_io.specs.Event.{GrewBy}
use Rattle.jls_io.specs.Writing.{Printed}
use Rattle.jls_io.specs.FaultLines.{no_picture_line}
use Rattle.jls_cli.proofs.printing.print_no_frame.Goals as goal

pub returns : goal.returns
returns g c =
    let history = g.E.Device.history in
    subst (λ (n : ℕ). GrewBy (Printed (no_picture_line c.args.program.now c.args.name.now n c.args.offset)) (history c.args.faults.now)
    (history c.print_no_picture.new.faults))
    (c.from-number.ensures ∙ c.number.ensures) c.print_no_picture.ensures
