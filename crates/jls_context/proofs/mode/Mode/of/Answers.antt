use Rattle.std.proofs.Common.{◌≡◌, arith, w32, to_z, of_z, ap}
use Rattle.std.proofs.lemmas.Int.{ints}
use Rattle.jls_context.specs.Mode.{weighed}
use Rattle.jls_context.proofs.Gradients.{run_mode, no_run_mode, regular_mode, weighed_is}
use Rattle.jls_context.proofs.mode.Mode.of.Goals as goal

pub overflow_cast-result : goal.overflow_cast-result
overflow_cast-result c =
    let low = c.weighed-number.ensures.at_least in let high = c.weighed-number.ensures.at_most in
    omega (arith, ints, c.unsigned_abs.ensures.value)

-- all gradients are 0: run mode
pub returns-then-number-eq0 : goal.returns-then-number-eq0
returns-then-number-eq0 c = λ p near are.
    let value : c.weighed-number.result ≡ weighed c.args.q1 c.args.q2 c.args.q3 =
    (let a : to_z w32 (of_z w32 c.args.q1) ≡ c.args.q1 = omega (arith, ints) in
    let b : to_z w32 (of_z w32 c.args.q2) ≡ c.args.q2 = omega (arith, ints) in
    let d : to_z w32 (of_z w32 c.args.q3) ≡ c.args.q3 = omega (arith, ints) in rw (a, b, d) at c.weighed-number.ensures.value) in
    run_mode p near c.weighed-number.result (weighed_is p near c.args.q1 c.args.q2 c.args.q3 c.weighed-number.result are value)
    (let e = c.if-number-eq0.true in omega (arith, ints))

-- the weighed sum decides the mode, the context and SIGN
pub returns : goal.returns
returns c = λ p near are.
    let value : c.weighed-number.result ≡ weighed c.args.q1 c.args.q2 c.args.q3 =
    (let a : to_z w32 (of_z w32 c.args.q1) ≡ c.args.q1 = omega (arith, ints) in
    let b : to_z w32 (of_z w32 c.args.q2) ≡ c.args.q2 = omega (arith, ints) in
    let d : to_z w32 (of_z w32 c.args.q3) ≡ c.args.q3 = omega (arith, ints) in rw (a, b, d) at c.weighed-number.ensures.value) in
    let sum = weighed_is p near c.args.q1 c.args.q2 c.args.q3 c.weighed-number.result are value in
    let is = regular_mode p near (no_run_mode p near c.weighed-number.result sum (λ e. c.if-number-eq0.false (ap (of_z w32) e)))
    c.weighed-number.result sum in
    let same : to_z w32 (of_z w32 c.weighed-number.result) ≡ c.weighed-number.result = omega (arith, ints) in
    rw (c.unsigned_abs.ensures.value, same) is
