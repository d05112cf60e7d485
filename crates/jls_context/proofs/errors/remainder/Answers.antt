use Rattle.std.proofs.Common.{◌+◌, arith}
use Rattle.std.proofs.lemmas.Int.{ints}
use Rattle.jls_context.proofs.Remainders.{remainder_below, remainder_within, remainder_above}
use Rattle.jls_context.proofs.errors.remainder.Goals as goal

pub returns-then-value-lt0-clause-value : goal.returns-then-value-lt0-clause-value
returns-then-value-lt0-clause-value c =
    let is = remainder_below (c.args.maxval + 1) c.args.value c.requires.at_least (omega (arith, ints)) in omega (arith, ints)

pub returns-then-value-range-clause-value : goal.returns-then-value-range-clause-value
returns-then-value-range-clause-value c =
    let is = remainder_within (c.args.maxval + 1) c.args.value (omega (arith, ints)) (omega (arith, ints)) in omega (arith, ints)

pub returns-else-value-range-clause-value : goal.returns-else-value-range-clause-value
returns-else-value-range-clause-value c =
    let is = remainder_above (c.args.maxval + 1) c.args.value (omega (arith, ints)) c.requires.below in omega (arith, ints)
