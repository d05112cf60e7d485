use Rattle.std.proofs.Common.{refl}
use Rattle.jls_bits.specs.CodeState.{bits_fed}
use Rattle.jls_bits.proofs.ChunkSteps.{taking_none, taking_more, whole_chunk, step_of}
use Rattle.jls_bits.proofs.code_state.push_bit_by_bit.Goals as goal

pub loop-bit-init : goal.loop-bit-init
loop-bit-init c = taking_none c.args.k c.args.g c.args.qbpp (bits_fed c.args.g c.args.qbpp c.args.state) c.args.chunk.now c.args.state
    c.requires.open refl

pub push-requires-clause-open : goal.push-requires-clause-open
push-requires-clause-open c = c.loop-bit.invariant.opened

pub loop-bit-preserved : goal.loop-bit-preserved
loop-bit-preserved c =
    taking_more c.args.k c.args.g c.args.qbpp (bits_fed c.args.g c.args.qbpp c.args.state) c.args.chunk.now c.loop-bit.now c.loop-bit.chunk
    c.take_bit.new.self c.in-Some.bit c.loop-bit.invariant c.in-Some.ensures.some c.in-More.next c.in-More.ensures

pub returns-in_default-push : goal.returns-in_default-push
returns-in_default-push c =
    step_of c.args.k c.args.g c.args.qbpp (bits_fed c.args.g c.args.qbpp c.args.state) c.args.chunk.now c.loop-bit.now c.loop-bit.chunk
    c.take_bit.new.self c.in-Some.bit c.loop-bit.invariant c.in-Some.ensures.some c.push.result c.push.ensures
    c.in_default-push.not-More

pub returns : goal.returns
returns c =
    whole_chunk c.args.k c.args.g c.args.qbpp (c.requires.g.0) (bits_fed c.args.g c.args.qbpp c.args.state) c.args.chunk.now c.loop-bit.now
    c.loop-bit.chunk c.take_bit.new.self c.loop-bit.invariant c.in_default.ensures.none
