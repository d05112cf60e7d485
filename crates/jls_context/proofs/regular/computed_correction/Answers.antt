use Rattle.std.proofs.Common.{ℕ, arith}
use Rattle.std.specs.Prelude.{ℤ, pos, neg_ℤ, ◌≤ℤ◌, ◌<ℤ◌}
use Rattle.std.proofs.lemmas.Int.{ints, clamps}
use Rattle.jls_context.proofs.Updates.{correction_low, correction_high, neither}
use Rattle.jls_context.proofs.regular.computed_correction.Goals as goal
use Rattle.jls_context.proofs.regular.computed_correction.Goals.{then-bias-count, else-bias-count, then-bias-gt0, else-bias-gt0}

-- C, moved by one step where B has left its range
pub returns-clause-value : goal.returns-clause-value
returns-clause-value c =
    let n : ℕ = c.args.occurrences in let b : ℤ = c.args.bias in let d : ℤ = c.args.correction in let bounded = c.bounded.ensures in
    elim c.if-bias-count.branch [
      | then-bias-count w ↦ elim c.if-bias-gt0.branch [
        | then-bias-gt0 v ↦ absurd (omega (arith, ints))
        | else-bias-gt0 v ↦ (let low : b ≤ℤ neg_ℤ (pos n) = omega (arith, ints) in let is = correction_low n b d low in
            omega (arith, ints, clamps))
      ]
      | else-bias-count w ↦ (let above : neg_ℤ (pos n) <ℤ b = omega (arith, ints) in elim c.if-bias-gt0.branch [
        | then-bias-gt0 v ↦ (let high : pos 0 <ℤ b = omega (arith, ints) in let is = correction_high n b d above high in
            omega (arith, ints, clamps))
        | else-bias-gt0 v ↦ (let most : b ≤ℤ pos 0 = omega (arith, ints) in let is = (neither n b d above most).1 in
            omega (arith, ints, clamps))
      ])
    ]

pub returns-clause-at_least : goal.returns-clause-at_least
returns-clause-at_least c = let bounded = c.bounded.ensures in omega (arith, ints, clamps)

pub returns-clause-at_most : goal.returns-clause-at_most
returns-clause-at_most c = let bounded = c.bounded.ensures in omega (arith, ints, clamps)
