use Rattle.std.proofs.Common.{◌≡◌, ℕ, true, false, refl, sym, ◌∙◌}
use Rattle.jls_values.specs.Params.{qbpp}
use Rattle.jls_bits.specs.Golomb.{BeginsCodeOf}
use Rattle.jls_bits.specs.CodeState.{bits_fed}
use Rattle.jls_interval.proofs.SamplesRead.{along}
use Rattle.jls_pixel.specs.OpenSamples.{first_bits}
use Rattle.jls_pixel.proofs.CutSamples.{begins_sample, begins_not}
use Rattle.jls_pixel.proofs.cut_sample.sample_begins.Goals as goal

pub returns-then-is_excepted-clause-no : goal.returns-then-is_excepted-clause-no
returns-then-is_excepted-clause-no c = λ _ allowed. absurd (c.is_excepted.ensures.yes c.if-is_excepted.true allowed)

pub returns-clause-yes : goal.returns-clause-yes
returns-clause-yes c = λ e earlier t.
    let coder = c.args.coder.now in let cells = coder.cells in let o = c.args.begun in let m : ℕ = c.sample_number-number.result in
    let begins : BeginsCodeOf o.shape.k o.shape.limit (qbpp cells.parameters) (first_bits cells o) m =
    along (λ k g q. BeginsCodeOf k g q (bits_fed g q o.code) m) _ _ _ _ _ _ refl refl coder.lengths_are.qbpp_is
    (c.allows.ensures.0 e) in
    record {
      sample = c.args.sample;
      at_most = c.requires.sample;
      allowed = c.is_excepted.ensures.no c.if-is_excepted.false;
      cut = begins_sample cells o c.requires.begun c.args.sample m c.sample_number-number.ensures.number earlier t
          c.sample_number-number.ensures.at_most begins;
    }

pub returns-clause-no : goal.returns-clause-no
returns-clause-no c = λ e _ earlier t.
    let coder = c.args.coder.now in let cells = coder.cells in let o = c.args.begun in let m : ℕ = c.sample_number-number.result in
    begins_not cells o c.requires.begun c.args.sample m c.sample_number-number.ensures.number earlier t
    (λ b. (let begins = along (λ k g q. BeginsCodeOf k g q (bits_fed g q o.code) m) _ _ _ _ _ _ refl refl
    (sym coder.lengths_are.qbpp_is) b in
    let q : true ≡ false = sym (c.allows.ensures.1 begins) ∙ e in cc))
