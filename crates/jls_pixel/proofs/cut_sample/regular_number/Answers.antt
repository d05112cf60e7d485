use Rattle.std.proofs.Common.{◌≡◌, ℕ, ap, ◌∙◌, arith, to_z, of_z, w32}
use Rattle.std.specs.Prelude.{pos, ◌-ℤ◌}
use Rattle.std.proofs.lemmas.Int.{ints}
use Rattle.jls_context.specs.declared.regular.Cell.{Cell}
use Rattle.jls_context.specs.Mode.{with_sign}
use Rattle.jls_context.specs.Errors.{modulo_reduced}
use Rattle.jls_context.specs.Prediction.{edge_detecting_predictor, corrected_prediction}
use Rattle.jls_context.specs.Regular.{regular_mapped}
use Rattle.jls_context.specs.Variables.{cell_at}
use Rattle.jls_interval.specs.Cells.{regular_error}
use Rattle.jls_pixel.proofs.CutSamples.{regular_codes}
use Rattle.jls_pixel.proofs.cut_sample.regular_number.Goals as goal

pub returns-clause-number : goal.returns-clause-number
returns-clause-number c =
    let coder = c.args.coder.now in let cells = coder.cells in let p = cells.parameters in let near = c.args.near in
    let s : ℕ = c.args.sample in let q : ℕ = c.regular_mode-context.result.context in let cell : Cell = cell_at cells q in
    let negative = c.regular_mode-context.result.negative in let edge = edge_detecting_predictor near.ra near.rb near.rc in
    let dd : to_z w32 (of_z w32 c.signed_difference.result) ≡ c.signed_difference.result = omega (arith, ints) in
    let ee : to_z w32 (of_z w32 c.reduce-error.result) ≡ c.reduce-error.result = omega (arith, ints) in
    let error_is : to_z w32 (of_z w32 c.reduce-error.result) ≡ regular_error p cell near s =
    ee ∙ c.reduce-error.ensures.value ∙ ap (modulo_reduced p) (dd ∙ c.signed_difference.ensures)
    ∙ ap (λ z. modulo_reduced p (with_sign negative (pos s -ℤ pos z))) c.predict-predicted.ensures.value
    ∙ ap (λ n. modulo_reduced p (with_sign n (pos s -ℤ pos (corrected_prediction p n cell.correction edge))))
    c.regular_mode-context.ensures.sign in
    regular_codes p coder.in_range cells near s q c.regular_code.result.1 c.regular_mode-context.ensures.context
    (c.regular_code.ensures.mapped ∙ ap (regular_mapped cell) error_is)
