use Rattle.std.proofs.Common.{◌≡◌, arith, sym, subst, w32, to_z, of_z}
use Rattle.std.specs.Prelude.{pos}
use Rattle.std.specs.Int.{int_rem_euclid}
use Rattle.jls_values.specs.Params.{range}
use Rattle.std.proofs.lemmas.Int.{ints}
use Rattle.jls_context.specs.Errors.{IsModuloReduced}
use Rattle.jls_context.proofs.Remainders.{reduced_low, reduced_high, modulo_reduced_is}
use Rattle.jls_context.proofs.errors.reduced.Goals as goal
use Rattle.jls_context.proofs.errors.reduced.Goals.{After-remainder}

-- the remainder, as the definition has it
remainder_is : (c : After-remainder) → pos c.remainder.result ≡ int_rem_euclid c.args.difference (pos (range c.args.params.now))
remainder_is c =
    let d : to_z w32 (of_z w32 c.args.difference) ≡ c.args.difference = omega (arith, ints) in
    rw (d, c.maxval.ensures.value) at c.remainder.ensures.value

pub returns-then-remainder-error_limit-clause-value :
    goal.returns-then-remainder-error_limit-clause-value
returns-then-remainder-error_limit-clause-value c =
    let is = remainder_is (goal.at.returns-then-remainder-error_limit-clause-value c).After-remainder in
    let e = reduced_low c.args.params.now c.args.difference (grind (arith, ints)) in omega (arith, ints)

pub returns-then-remainder-error_limit-clause-reduced :
    goal.returns-then-remainder-error_limit-clause-reduced
returns-then-remainder-error_limit-clause-reduced c =
    subst (IsModuloReduced c.args.params.now c.args.difference) (sym (returns-then-remainder-error_limit-clause-value c))
    (modulo_reduced_is c.args.params.now c.args.difference)

pub returns-else-remainder-error_limit-clause-value :
    goal.returns-else-remainder-error_limit-clause-value
returns-else-remainder-error_limit-clause-value c =
    let is = remainder_is (goal.at.returns-else-remainder-error_limit-clause-value c).After-remainder in
    let e = reduced_high c.args.params.now c.args.difference (grind (arith, ints)) in omega (arith, ints)

pub returns-else-remainder-error_limit-clause-reduced :
    goal.returns-else-remainder-error_limit-clause-reduced
returns-else-remainder-error_limit-clause-reduced c =
    subst (IsModuloReduced c.args.params.now c.args.difference) (sym (returns-else-remainder-error_limit-clause-value c))
    (modulo_reduced_is c.args.params.now c.args.difference)
