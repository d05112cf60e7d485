use Rattle.std.proofs.Common.{◌∙◌, ap, subst, sym, arith}
use Rattle.jls_context.specs.declared.regular.CellCode.{CellCode}
use Rattle.jls_context.specs.Bounds.{AreVariables}
use Rattle.jls_context.specs.Regular.{code_of, IsGolombK}
use Rattle.jls_context.specs.Variables.{Variables, cell_at}
use Rattle.jls_context.proofs.GolombLaws.{golomb_k_found, k_at_most}
use Rattle.jls_context.proofs.Writes.{code_there, cell_right}
use Rattle.jls_context.proofs.cells.Cells.code.Goals as goal

pub returns-clause-value : goal.returns-clause-value
returns-clause-value c =
    rw c.from.ensures (code_there _ c.self.inside.codes c.args.cell _ c.self.invariant (omega arith))
    ∙ ap (λ (v : Variables). code_of (cell_at v c.args.cell)) c.self.view_is

-- k is the least one for the cell
pub returns-clause-least : goal.returns-clause-least
returns-clause-least c =
    let at = cell_at c.args.self.now c.args.cell in
    let ok = cell_right c.args.self.now c.args.cell (subst AreVariables c.self.view_is c.self.invariant.variables) (omega arith) in
    subst (λ (code : CellCode). IsGolombK at.occurrences at.magnitudes code.k) (sym (returns-clause-value c))
    (golomb_k_found at.occurrences at.magnitudes ok.occurrences_at_least)

pub returns-clause-at_most : goal.returns-clause-at_most
returns-clause-at_most c =
    let ok = cell_right c.args.self.now c.args.cell (subst AreVariables c.self.view_is c.self.invariant.variables) (omega arith) in
    k_at_most _ _ _ (omega (arith, ok.occurrences_at_least, ok.magnitudes_at_most)) (returns-clause-least c)
