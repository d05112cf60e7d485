use Rattle.std.proofs.Common.{◌≡◌, arith, ap, ◌∙◌}
use Rattle.std.proofs.lemmas.Int.{ints}
use Rattle.jls_context.specs.Mode.{with_sign}
use Rattle.jls_context.specs.Prediction.{clamped_prediction, corrected_prediction}
use Rattle.jls_context.proofs.prediction.corrected_prediction.Goals as goal

-- the prediction with SIGN times C, clamped
pub returns-clause-value : goal.returns-clause-value
unfolding corrected_prediction
returns-clause-value c =
    let sign : c.with_sign.result ≡ with_sign c.args.negative c.args.correction = c.with_sign.ensures.value
    ∙ ap (with_sign c.args.negative) (omega (arith, ints)) in
    c.clamped_prediction.ensures ∙ ap (clamped_prediction c.args.params.now) (omega (arith, ints))
