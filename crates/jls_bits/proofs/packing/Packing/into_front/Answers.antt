use Rattle.std.proofs.Common.{◌<◌, length, subst, refl, arith}
use Rattle.jls_bits.specs.Bits.{bits, width_after}
use Rattle.jls_bits.specs.Packing.{bits_put}
use Rattle.jls_bits.proofs.NumberBits.{length-bits}
use Rattle.jls_bits.proofs.packing.Packing.into_front.Goals as goal

-- the bytes are those that the bits fill
pub returns : goal.returns
unfolding bits_put
returns c =
    let s = c.args.self in let p = c.requires.packing in let n = length-bits s.count s.waiting in
    record {
      filled = p.filled;
      over = bits s.count s.waiting;
      given_is = refl;
      few = subst (λ z. length (bits s.count s.waiting) < width_after z) p.last (omega (arith, n, c.requires.few));
    }
