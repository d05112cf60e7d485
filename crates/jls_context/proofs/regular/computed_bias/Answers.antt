use Rattle.std.proofs.Common.{ℕ, arith}
use Rattle.std.specs.Prelude.{ℤ, pos, neg_ℤ, ◌≤ℤ◌, ◌<ℤ◌}
use Rattle.std.proofs.lemmas.Int.{ints, clamps}
use Rattle.jls_context.proofs.Updates.{bias_low, bias_high, neither}
use Rattle.jls_context.proofs.regular.computed_bias.Goals as goal
use Rattle.jls_context.proofs.regular.computed_bias.Goals.{then-bias-count, else-bias-count, then-bias-gt0, else-bias-gt0}

-- B, brought back by N if it has left its range
pub returns-clause-value : goal.returns-clause-value
returns-clause-value c =
    let n : ℕ = c.args.occurrences in let b : ℤ = c.args.bias in let max = c.max.ensures.value in let min = c.min.ensures.value in
    elim c.if-bias-count.branch [
      | then-bias-count w ↦ elim c.if-bias-gt0.branch [
        | then-bias-gt0 v ↦ absurd (omega (arith, ints))
        | else-bias-gt0 v ↦ (let low : b ≤ℤ neg_ℤ (pos n) = omega (arith, ints) in let is = bias_low n b low in omega (arith, ints, clamps))
      ]
      | else-bias-count w ↦ (let above : neg_ℤ (pos n) <ℤ b = omega (arith, ints) in elim c.if-bias-gt0.branch [
        | then-bias-gt0 v ↦ (let high : pos 0 <ℤ b = omega (arith, ints) in let is = bias_high n b above high in
            omega (arith, ints, clamps))
        | else-bias-gt0 v ↦ (let most : b ≤ℤ pos 0 = omega (arith, ints) in let is = (neither n b b above most).0 in
            omega (arith, ints, clamps))
      ])
    ]

pub returns-clause-above : goal.returns-clause-above
returns-clause-above c = let max = c.max.ensures.value in let min = c.min.ensures.value in omega (arith, ints, clamps)
