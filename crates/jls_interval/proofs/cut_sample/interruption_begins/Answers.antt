use Rattle.std.proofs.Common.{ℕ, ◌-◌, ◌∙◌, ap}
use Rattle.jls_values.specs.Params.{limit, qbpp}
use Rattle.jls_bits.specs.Golomb.{BeginsCodeOf}
use Rattle.jls_bits.specs.CodeState.{bits_fed}
use Rattle.jls_bits.proofs.Codes.{small_has_code}
use Rattle.jls_context.specs.Interruption.{run_k}
use Rattle.jls_context.specs.Variables.{run_cell_at}
use Rattle.jls_interval.specs.Cells.{is_same}
use Rattle.jls_interval.proofs.EventsApart.{limit_room}
use Rattle.jls_interval.proofs.SamplesRead.{along}
use Rattle.jls_interval.proofs.CutSamples.{proper}
use Rattle.jls_interval.proofs.cut_sample.interruption_begins.Goals as goal

-- a sample is there whose code begins so
pub returns-in-Some-clause-yes : goal.returns-in-Some-clause-yes
returns-in-Some-clause-yes c = λ _.
    let coder = c.args.coder.now in let p = coder.cells.parameters in let near = c.args.neighbours in
    let k = run_k (is_same near) (run_cell_at coder.cells (is_same near)) in let m : ℕ = c.args.mapped in let code = c.args.code in
    let j : ℕ = c.args.order in let g = limit p - j - 1 in
    let begins : BeginsCodeOf k g (qbpp p) (bits_fed g (qbpp p) code) m =
    along (λ k g q. BeginsCodeOf k g q (bits_fed g q code) m) _ _ _ _ _ _ c.run_k-k.ensures.value
    (ap (λ z. z - j - 1) coder.lengths_are.limit_is) coder.lengths_are.qbpp_is (c.allows.ensures.0 c.if-not-allows.false) in
    let room = limit_room p j c.requires.order in
    let cut = proper k g (qbpp p) room code c.requires.opened m (small_has_code k g (qbpp p) m room c.requires.mapped) begins in
    record {
      sample = c.in-Some.field-0.value;
      at_most = c.in-Some.ensures.sample;
      another = c.in-Some.ensures.another;
      cut = record { missing = cut.missing; more_missing = cut.more_missing; whole_is = c.in-Some.ensures.bits ∙ cut.whole_is };
    }
