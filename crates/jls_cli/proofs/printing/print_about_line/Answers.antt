use Rattle.std.proofs.Common.{◌++◌, ℕ, subst}
use Rattle.std.specs.Prelude.{codes, decimal}
use Rattle.jls_io.specs.Event.{GrewBy}
use Rattle.jls_io.specs.Writing.{Printed}
use Rattle.jls_cli.proofs.printing.print_about_line.Goals as goal

pub returns : goal.returns
returns g c =
    let history = g.E.Device.history in
    subst (λ (id : ℕ). GrewBy (Printed
    (c.args.program.now ++ (codes ": line "
    ++ (decimal c.args.line ++ (codes " of component " ++ (decimal id ++ (c.args.said.now ++ codes "\n"))))))) (history c.args.faults.now)
    (history c.print_line.new.faults))
    c.from-2.ensures
    (subst (λ (line : ℕ). GrewBy (Printed
    (c.args.program.now ++ (codes ": line "
    ++ (decimal line ++ (codes " of component " ++ (decimal c.from-2.result ++ (c.args.said.now ++ codes "\n")))))))
    (history c.args.faults.now) (history c.print_line.new.faults))
    c.from.ensures c.print_line.ensures)
