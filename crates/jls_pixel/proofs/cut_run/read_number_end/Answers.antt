use Rattle.std.proofs.Common.{◌++◌, sym, ap, ◌∙◌, arith}
use Rattle.std.proofs.lemmas.List.{append-nil}
use Rattle.jls_bits.specs.Bits.{bits}
use Rattle.jls_bits.proofs.NumberBits.{bits_none}
use Rattle.jls_pixel.proofs.RunReads.{bit_more}
use Rattle.jls_pixel.proofs.cut_run.read_number_end.Goals as goal

pub loop-place-init : goal.loop-place-init
loop-place-init c = record {
  bits_are = ap (λ z. z ++ c.args.pending.now) (sym (bits_none 0));
  below = omega arith;
}

pub loop-place-preserved : goal.loop-place-preserved
loop-place-preserved c =
    let i = c.loop-place.invariant in
    let m = bit_more c.args.pending.now c.loop-place.pending c.read_bit.new.self c.loop-place.place c.loop-place.value
    c.in-Some.bit i.bits_are c.in-Some.ensures.some i.below in
    record { bits_are = m.0; below = m.1 }

pub returns-in-None : goal.returns-in-None
returns-in-None c =
    let i = c.loop-place.invariant in let b = bits c.loop-place.place c.loop-place.value in (
      c.loop-place-test.true,
      i.below,
      i.bits_are ∙ ap (λ z. b ++ z) c.in-None.ensures.none.0 ∙ append-nil b,
    )
