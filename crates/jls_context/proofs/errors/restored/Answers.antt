use Rattle.std.proofs.Common.{◌≡◌, arith, sym, ap, ◌∙◌}
use Rattle.std.proofs.lemmas.Int.{ints}
use Rattle.jls_context.specs.Mode.{with_sign}
use Rattle.jls_context.proofs.Samples.{restored_remainder, sample_same}
use Rattle.jls_context.proofs.errors.restored.Goals as goal

-- the sample has this error against the prediction
pub returns-clause-error : goal.returns-clause-error
returns-clause-error c =
    let p = c.args.params.now in
    let sign : c.with_sign.result ≡ with_sign c.args.negative c.args.error = c.with_sign.ensures.value
    ∙ ap (with_sign c.args.negative) (omega (arith, ints)) in
    restored_remainder p c.args.negative c.remainder.result c.args.prediction c.args.error c.with_sign.result _ (omega (arith, ints))
    c.requires.prediction c.requires.error sign (omega (arith, ints, c.with_sign.ensures.size))
    (rw c.maxval-maxval.ensures.value at c.remainder.ensures.value)

pub returns-clause-only : goal.returns-clause-only
returns-clause-only c = λ other small e. sample_same c.args.params.now c.args.negative other c.remainder.result c.args.prediction small
    (omega (arith, ints)) c.requires.prediction (e ∙ sym (returns-clause-error c))
