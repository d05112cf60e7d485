use Rattle.std.proofs.Common.{◌≡◌, arith, w32, to_z, of_z}
use Rattle.std.proofs.lemmas.Int.{ints}
use Rattle.jls_context.proofs.Sizes.{range-le-pow, error_mapped_at_most}
use Rattle.jls_context.proofs.cells.Cells.regular_code.Goals as goal

-- the mapped error is at most 2^qbpp
pub returns-clause-mapped_at_most : goal.returns-clause-mapped_at_most
returns-clause-mapped_at_most c =
    let p = c.args.self.now.parameters in let same : to_z w32 (of_z w32 c.args.error) ≡ c.args.error = omega (arith, ints) in
    let is = rw same at c.error_mapped.ensures in let small = c.regular_cell-cell.ensures.variables.maxval_below in
    let fits = range-le-pow p small in let bound = error_mapped_at_most p c.code-code.result.now.special c.args.error c.requires.error in
    omega arith
