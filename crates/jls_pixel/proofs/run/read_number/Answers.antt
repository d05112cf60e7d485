use Rattle.std.proofs.Common.{◌++◌, sym, ap, arith}
use Rattle.jls_bits.proofs.NumberBits.{bits_none}
use Rattle.jls_pixel.proofs.RunReads.{bit_more, bits_end}
use Rattle.jls_pixel.proofs.run.read_number.Goals as goal

pub loop-place-init : goal.loop-place-init
loop-place-init c = record {
  bits_are = ap (λ z. z ++ c.args.pending.now) (sym (bits_none 0));
  below = omega arith;
}

pub loop-place-preserved : goal.loop-place-preserved
loop-place-preserved c =
    let i = c.loop-place.invariant in
    let m = bit_more c.args.pending.now c.loop-place.pending c.read_bit.new.self c.loop-place._place c.loop-place.value
    c.in-Some.bit i.bits_are c.in-Some.ensures.some i.below in
    record { bits_are = m.0; below = m.1 }

pub returns-in-None-clause-none : goal.returns-in-None-clause-none
returns-in-None-clause-none c = λ v rest e.
    bits_end c.args.pending.now c.loop-place._place c.args.count c.loop-place.value v c.loop-place.pending rest
    c.loop-place-test.true
    c.loop-place.invariant.bits_are c.in-None.ensures.none.0 e
