use Rattle.std.proofs.Common.{◌≡◌, ◌+◌, ◌/◌, arith, refl, ◌∙◌, w32, to_z, of_z}
use Rattle.std.specs.Prelude.{ℤ, pos, ◌+ℤ◌}
use Rattle.std.specs.Int.{int_div_euclid}
use Rattle.std.proofs.lemmas.Int.{ints}
use Rattle.jls_context.specs.declared.regular.Cell.{Cell}
use Rattle.jls_context.proofs.BiasSteps.{by_steps}
use Rattle.jls_context.proofs.Updates.{updated-grown, updated-aged}
use Rattle.jls_context.proofs.regular.Cell.updated.Goals as goal

-- at RESET the numbers are halved before the bias is computed
pub returns-then-self-reset-clause-value : goal.returns-then-self-reset-clause-value
returns-then-self-reset-clause-value c =
    let cell = c.args.self in let half : ℤ = c.div_euclid.result in
    let aged : Cell = record {
      magnitudes = (cell.magnitudes + c.unsigned_abs.result) / 2;
      occurrences = cell.occurrences / 2 + 1;
      bias =
          to_z w32 (of_z w32 half);
      correction = to_z w32 (of_z w32 cell.correction);
    } in
    let sum : to_z w32 (of_z w32 (to_z w32 (of_z w32 cell.bias) +ℤ to_z w32 (of_z w32 c.args.error))) ≡ cell.bias +ℤ c.args.error =
    omega (arith, ints) in
    let halved : half ≡ int_div_euclid (cell.bias +ℤ c.args.error) (pos 2) = rw sum at c.div_euclid.ensures in
    let same : to_z w32 (of_z w32 half) ≡ half = omega (arith, ints) in
    c.bias_computed.ensures.value ∙ by_steps aged
    ∙ updated-aged c.args.reset cell c.args.error aged c.if-self-reset.true (omega (arith, c.unsigned_abs.ensures.value, ints)) refl
    (same ∙ halved) (omega (arith, ints))

pub returns-then-self-reset-clause-cell : goal.returns-then-self-reset-clause-cell
returns-then-self-reset-clause-cell c =
    c.bias_computed.ensures.cell c.args.reset (omega arith) (omega (arith, c.unsigned_abs.ensures.value, ints))

-- below RESET the numbers are only added to before the bias is computed
pub returns-else-self-reset-clause-value : goal.returns-else-self-reset-clause-value
returns-else-self-reset-clause-value c =
    let cell = c.args.self in
    let grown : Cell = record {
      magnitudes = cell.magnitudes + c.unsigned_abs.result;
      occurrences = cell.occurrences + 1;
      bias =
          to_z w32 (of_z w32 (to_z w32 (of_z w32 cell.bias) +ℤ to_z w32 (of_z w32 c.args.error)));
      correction =
          to_z w32 (of_z w32 cell.correction);
    } in
    c.bias_computed-else-self-reset.ensures.value ∙ by_steps grown
    ∙ updated-grown c.args.reset cell c.args.error grown (λ e. omega arith) (omega (arith, c.unsigned_abs.ensures.value, ints)) refl
    (omega (arith, ints)) (omega (arith, ints))

pub returns-else-self-reset-clause-cell : goal.returns-else-self-reset-clause-cell
returns-else-self-reset-clause-cell c =
    c.bias_computed-else-self-reset.ensures.cell c.args.reset (omega arith) (omega (arith, c.unsigned_abs.ensures.value, ints))
