use Rattle.std.proofs.Common.{sym, subst}
use Rattle.jls_interval.proofs.RunChunks.{Taking, taking_none, taking_more, taking_end, taking_all, taking_then}
use Rattle.jls_interval.proofs.run_reader.RunState.push_chunk.Goals as goal

pub loop-bit-init : goal.loop-bit-init
loop-bit-init c = record { state = c.requires; taking = taking_none c.args.width c.args.self c.args.chunk.now }

-- one bit more is taken
pub loop-bit-preserved : goal.loop-bit-preserved
loop-bit-preserved c = record {
  state = c.in-More.ensures.state;
  taking = subst (Taking c.args.width c.args.self c.args.chunk.now c.in-More.next) (sym c.in-None.ensures.none)
      (taking_more c.args.width c.args.self c.args.chunk.now c.loop-bit.state c.loop-bit.chunk c.take_bit.new.self c.in-Some.bit
      c.loop-bit.invariant.taking c.in-Some.ensures.some c.in-More.next c.in-More.ensures.step);
}

-- the whole count is taken at once
pub returns-in-Some-take_count-clause-step : goal.returns-in-Some-take_count-clause-step
returns-in-Some-take_count-clause-step c =
    taking_then c.args.width c.args.self c.args.chunk.now c.in-More.next c.take_bit.new.self c.take_count.new.chunk
    c.in-Some-take_count.step
    (taking_more c.args.width c.args.self c.args.chunk.now c.loop-bit.state c.loop-bit.chunk c.take_bit.new.self c.in-Some.bit
    c.loop-bit.invariant.taking c.in-Some.ensures.some c.in-More.next c.in-More.ensures.step)
    c.in-Some-take_count.ensures.step

pub returns-in_default-push-clause-step : goal.returns-in_default-push-clause-step
returns-in_default-push-clause-step c =
    taking_end c.args.width c.args.self c.args.chunk.now c.loop-bit.state c.loop-bit.chunk c.take_bit.new.self c.in-Some.bit
    c.loop-bit.invariant.taking c.in-Some.ensures.some c.push.result c.push.ensures.step
    c.in_default-push.not-More

pub returns-clause-step : goal.returns-clause-step
returns-clause-step c = taking_all c.args.width c.args.self c.args.chunk.now c.loop-bit.state c.loop-bit.chunk c.take_bit.new.self
    c.loop-bit.invariant.taking c.in_default.ensures.none
