use Rattle.std.proofs.Common.{◌≡◌, ℕ, arith, inl, inr, subst}
use Rattle.std.proofs.lemmas.Bool.{cases_lt}
use Rattle.jls_pixel.specs.OpenEvents.{IsNot}
use Rattle.jls_pixel.specs.OpenSamples.{IsNotCut}
use Rattle.jls_pixel.proofs.cut_sample.some_sample_begins.Goals as goal

pub loop-sample-init : goal.loop-sample-init
loop-sample-init c = λ s l. absurd (omega arith)

pub loop-sample-preserved : goal.loop-sample-preserved
loop-sample-preserved c = λ s l.
    let cells = c.args.coder.now.cells in let now : ℕ = c.loop-sample.sample in
    elim (cases_lt s now) [
      | inl below ↦ c.loop-sample.invariant s below
      | inr above ↦ (let e : now ≡ s = omega arith in
          subst (λ z. IsNot c.args.except z → IsNotCut cells c.args.begun z) e (c.sample_begins.ensures.no c.if-sample_begins.false))
    ]

pub returns-clause-no : goal.returns-clause-no
returns-clause-no c = λ _ earlier t x.
    let most = c.args.coder.now.lengths_are.maxval_is in let small = x.at_most in
    c.loop-sample.invariant x.sample (omega arith) x.allowed earlier t x.cut
