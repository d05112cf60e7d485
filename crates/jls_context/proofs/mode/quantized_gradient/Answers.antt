use Rattle.std.proofs.Common.{◌≡◌, ℕ, ◌-◌, arith}
use Rattle.std.specs.Prelude.{pos}
use Rattle.std.proofs.lemmas.Int.{ints}
use Rattle.jls_context.specs.Mode.{quantized_size}
use Rattle.jls_context.proofs.Gradients.{gradient_below, gradient_above}
use Rattle.jls_context.proofs.mode.quantized_gradient.Goals as goal
use Rattle.jls_context.proofs.mode.quantized_gradient.Goals.{After-quantized_size-steps}

-- the steps of a difference of this size
steps_of : (c : After-quantized_size-steps) (size : ℕ) → c.abs_diff.result ≡ size
    → c.quantized_size-steps.result ≡ pos (quantized_size c.args.params.now size)
steps_of c size is = rw is at c.quantized_size-steps.ensures.value

pub returns-then-to-from-clause-value : goal.returns-then-to-from-clause-value
returns-then-to-from-clause-value c =
    let steps = steps_of (goal.at.returns-then-to-from-clause-value c).After-quantized_size-steps (c.args.from - c.args.to)
    (let d = c.abs_diff.ensures in let l = c.if-to-from.true in omega arith) in
    let is = gradient_below c.args.params.now c.args.to c.args.from c.if-to-from.true in omega (arith, ints)

pub returns-else-to-from-clause-value : goal.returns-else-to-from-clause-value
returns-else-to-from-clause-value c =
    let steps = steps_of (goal.at.returns-else-to-from-clause-value c).After-quantized_size-steps (c.args.to - c.args.from)
    (let d = c.abs_diff.ensures in let l = c.if-to-from.false in omega arith) in
    let is = gradient_above c.args.params.now c.args.to c.args.from c.if-to-from.false in omega (arith, ints)
