use Rattle.std.proofs.Common.{◌++◌, ◌-◌, replicate, false, ap, ◌∙◌, arith}
use Rattle.jls_bits.specs.Packing.{bits_put}
use Rattle.jls_bits.proofs.Padding.{zero_bits}
use Rattle.jls_bits.proofs.PackedBits.{zeros_more}
use Rattle.jls_bits.proofs.packing.Packing.put_zeros.Goals as goal

-- 32 zeros more are put, and so many fewer are left
pub loop-left-preserved : goal.loop-left-preserved
loop-left-preserved c =
    let l = c.loop-left in let i = l.invariant in let e = c.put_bits.ensures in
    record {
      packing = e.packing;
      put = ap (λ z. z ++ replicate (l.left - 32) false) e.bits
          ∙ zeros_more (bits_put l.self) l.left 32 (omega (arith, c.loop-left-test.true)) ∙ i.put;
      left = omega (arith, i.left);
      capacity = e.capacity ∙ i.capacity;
      growth = omega (arith, e.growth, i.growth, c.loop-left-test.true);
    }

pub returns-clause-bits : goal.returns-clause-bits
returns-clause-bits c =
    c.put_bits-2.ensures.bits ∙ ap (λ z. bits_put c.loop-left.self ++ z) (zero_bits c.loop-left.left) ∙ c.loop-left.invariant.put
