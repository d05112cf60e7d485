use Rattle.std.proofs.Common.{◌≡◌, ℕ, false, ap, ◌∙◌, arith, to_z, of_z, w32}
use Rattle.std.proofs.lemmas.Int.{ints}
use Rattle.jls_context.specs.Errors.{modulo_reduced}
use Rattle.jls_context.specs.Interruption.{interruption_mapped}
use Rattle.jls_context.specs.Variables.{run_cell_at}
use Rattle.jls_interval.specs.Cells.{interruption_error}
use Rattle.jls_pixel.proofs.CutSamples.{interrupting_codes}
use Rattle.jls_pixel.proofs.cut_sample.interrupting_number.Goals as goal

pub returns-clause-number : goal.returns-clause-number
returns-clause-number c =
    let coder = c.args.coder.now in let cells = coder.cells in let p = cells.parameters in let near = c.args.near in
    let s : ℕ = c.args.sample in
    let dd : to_z w32 (of_z w32 c.signed_difference.result) ≡ c.signed_difference.result = omega (arith, ints) in
    let ee : to_z w32 (of_z w32 c.reduce-error.result) ≡ c.reduce-error.result = omega (arith, ints) in
    let error_is : to_z w32 (of_z w32 c.reduce-error.result) ≡ interruption_error p near s =
    ee ∙ c.reduce-error.ensures.value ∙ ap (modulo_reduced p) (dd ∙ c.signed_difference.ensures) in
    interrupting_codes p coder.in_range cells near s c.args.order c.requires.order c.run_code.result.1
    (c.run_code.ensures.mapped ∙ ap (interruption_mapped false (run_cell_at cells false)) error_is)
