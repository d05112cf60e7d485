use Rattle.std.proofs.Common.{◌≤◌, take, subst, arith}
use Rattle.std.specs.Prelude.{All}
use Rattle.std.proofs.lemmas.List.{take_all}
use Rattle.std.proofs.lemmas.List.Elements.{All-more, All-weaker}
use Rattle.jls_partial.proofs.text_samples.largest.Goals as goal

-- one sample more is not above the largest
pub loop-sample-preserved : goal.loop-sample-preserved
loop-sample-preserved c =
    let xs = c.args.samples.now in
    let i = c.loop-sample.sample-index in
    let most = c.max-largest.result in
    All-more (λ x. x ≤ most) xs i 0 c.loop-sample-test.true
    (All-weaker (λ x. x ≤ c.loop-sample.largest) (λ x. x ≤ most) (λ x le. omega (arith, le, c.max-largest.ensures)) (take i xs)
    c.loop-sample.invariant)
    (omega (arith, c.max-largest.ensures))

pub returns : goal.returns
returns c =
    subst (All (λ x. x ≤ c.loop-sample.largest)) (take_all c.loop-sample.sample-index c.args.samples.now c.loop-sample-test.false)
    c.loop-sample.invariant
