use Rattle.std.proofs.Common.{◌≡◌, ℕ, arith, ap, subst, ◌∙◌, w32, to_z, of_z}
use Rattle.std.proofs.lemmas.Int.{ints}
use Rattle.jls_context.specs.Regular.{updated}
use Rattle.jls_context.specs.Bounds.{IsCell}
use Rattle.jls_context.specs.Variables.{Variables, cell_at}
use Rattle.jls_context.proofs.Writes.{cell_at-written_same, cell_at-written_other, codes_right}
use Rattle.jls_context.proofs.cells.Cells.update_regular.Goals as goal

-- the cells are in their ranges, with the one updated
pub invariant_of-self : goal.invariant_of-self
invariant_of-self c =
    let inside = c.self.inside in
    let reset_is : c.from-reset.result ≡ inside.params.reset = c.from-reset.ensures ∙ c.reset.ensures.value in
    let ok : IsCell inside.params.reset c.updated-new.result =
    subst (λ (z : ℕ). IsCell z c.updated-new.result) reset_is c.updated-new.ensures.cell in
    rw (c.from.ensures, c.from-2.ensures)
    (codes_right _ inside.codes c.args.cell c.updated-new.result c.code.result (omega arith) c.self.invariant ok c.code.ensures.value)

-- the cell is the updated one
pub returns-clause-updated : goal.returns-clause-updated
returns-clause-updated c =
    let length_is = c.self.invariant.variables.length_is in
    let same : to_z w32 (of_z w32 c.args.error) ≡ c.args.error = omega (arith, ints) in
    let reset_is : c.from-reset.result ≡ c.args.self.now.parameters.reset = c.from-reset.ensures ∙ c.reset.ensures.value
    ∙ ap (λ (v : Variables). v.parameters.reset) c.self.view_is in
    let value : c.updated-new.result ≡ updated c.args.self.now.parameters.reset (cell_at c.args.self.now c.args.cell) c.args.error =
    rw (reset_is, c.regular_cell-old.ensures.value, same) at c.updated-new.ensures.value in
    rw c.from.ensures (cell_at-written_same _ c.args.cell c.updated-new.result (omega arith)) ∙ value

pub returns-clause-others : goal.returns-clause-others
returns-clause-others c = λ other apart. (
    rw c.from.ensures (cell_at-written_other _ c.args.cell c.updated-new.result other apart)
    ∙ ap (λ (v : Variables). cell_at v other) c.self.view_is
    )
