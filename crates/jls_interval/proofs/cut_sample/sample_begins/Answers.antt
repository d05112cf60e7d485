use Rattle.std.proofs.Common.{ℕ, ◌∙◌}
use Rattle.jls_values.specs.Params.{limit, qbpp}
use Rattle.jls_bits.specs.Golomb.{BeginsCodeOf}
use Rattle.jls_bits.specs.CodeState.{bits_fed}
use Rattle.jls_bits.proofs.Codes.{small_has_code}
use Rattle.jls_context.specs.Regular.{regular_k}
use Rattle.jls_context.specs.Variables.{cell_at}
use Rattle.jls_interval.proofs.SamplesRead.{along}
use Rattle.jls_interval.proofs.CutSamples.{proper, room_of}
use Rattle.jls_interval.proofs.cut_sample.sample_begins.Goals as goal

-- a sample is there whose code begins so
pub returns-in-Some-clause-yes : goal.returns-in-Some-clause-yes
returns-in-Some-clause-yes c = λ _.
    let coder = c.args.coder.now in let p = coder.cells.parameters in let k = regular_k (cell_at coder.cells c.args.mode.context) in
    let m : ℕ = c.args.mapped in let code = c.args.code in
    let begins : BeginsCodeOf k (limit p) (qbpp p) (bits_fed (limit p) (qbpp p) code) m =
    along (λ k g q. BeginsCodeOf k g q (bits_fed g q code) m) _ _ _ _ _ _ c.regular_k-k.ensures.value coder.lengths_are.limit_is
    coder.lengths_are.qbpp_is (c.allows.ensures.0 c.if-not-allows.false) in
    let room = room_of p coder.in_range in
    let cut = proper k (limit p) (qbpp p) room code c.requires.opened m (small_has_code k (limit p) (qbpp p) m room c.requires.mapped)
    begins in
    record {
      sample = c.in-Some.field-0.value;
      at_most = c.in-Some.ensures.sample;
      cut = record { missing = cut.missing; more_missing = cut.more_missing; whole_is = c.in-Some.ensures.bits ∙ cut.whole_is };
    }
