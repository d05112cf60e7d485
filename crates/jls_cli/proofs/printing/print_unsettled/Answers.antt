use Rattle.std.proofs.Common.{Bool, sym, subst}
use Rattle.jls_io.specs.Event.{GrewBy}
use Rattle.jls_io.specs.Writing.{Printed}
use Rattle.jls_cli.specs.FaultLines.{unsettled_line}
use Rattle.jls_cli.proofs.printing.print_unsettled.Goals as goal

pub returns-then-disputed : goal.returns-then-disputed
returns-then-disputed g c =
    let history = g.E.Device.history in
    subst (λ (disputed : Bool). GrewBy (Printed (unsettled_line c.args.program.now c.args.id c.args.line disputed))
    (history c.args.faults.now) (history c.print_about_line.new.faults))
    (sym c.if-disputed.true) c.print_about_line.ensures
