use Rattle.std.proofs.Common.{arith, ◌∙◌, ap}
use Rattle.std.proofs.lemmas.List.{get_or_default}
use Rattle.jls_context.specs.Variables.{Variables, cell_at}
use Rattle.jls_context.proofs.cells.Cells.regular_cell.Goals as goal

-- the cell of a context in the list
pub returns-clause-value : goal.returns-clause-value
unfolding cell_at
returns-clause-value c =
    let length_is = c.self.invariant.variables.length_is in
    rw c.from.ensures (get_or_default c.self.inside.regular c.args.cell _ _ (omega arith))
    ∙ ap (λ (v : Variables). cell_at v c.args.cell) c.self.view_is

pub returns-clause-cell : goal.returns-clause-cell
returns-clause-cell c =
    let length_is = c.self.invariant.variables.length_is in
    rw (c.from.ensures, ← c.self.view_is) (c.self.invariant.variables.regular c.args.cell _ (omega arith))
