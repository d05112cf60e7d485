use Rattle.std.proofs.Common.{arith}
use Rattle.std.proofs.lemmas.Int.{ints}
use Rattle.jls_context.proofs.Gradients.{steps_counted, size_range}
use Rattle.jls_context.proofs.mode.quantized_size.Goals as goal

pub returns-clause-value : goal.returns-clause-value
returns-clause-value c =
    let steps = steps_counted c.args.params.now c.args.size c.t1.result c.t2.result c.t3.result c.t1.ensures.ranges c.t1.ensures.value
    c.t2.ensures.value c.t3.ensures.value in
    omega (arith, ints)

pub returns-clause-at_most : goal.returns-clause-at_most
returns-clause-at_most c =
    let value = returns-clause-value c in let most = size_range c.args.params.now c.args.size in omega (arith, ints)
