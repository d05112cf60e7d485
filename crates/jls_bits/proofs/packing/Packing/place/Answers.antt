use Rattle.std.proofs.Common.{◌≡◌, ◌<◌, vec_len, rules, length, subst, refl, sym, ◌∙◌, arith}
use Rattle.jls_bits.specs.Bits.{bits, width_after}
use Rattle.jls_bits.specs.Packing.{bits_put}
use Rattle.jls_bits.proofs.NumberBits.{length-bits}
use Rattle.jls_bits.proofs.packing.Packing.place.Goals as goal

-- the bits end after the whole bytes and those that wait
pub returns : goal.returns
unfolding bits_put
returns c =
    let s = c.args.self.now in let p = c.requires.packing in let n = length-bits s.count s.waiting in
    let is : vec_len s.bytes ≡ length s.bytes.items = search (rules, arith) in
    record {
      bytes = s.bytes.items;
      front = record {
        filled = p.filled;
        over = bits s.count s.waiting;
        given_is = refl;
        few = subst (λ z. length (bits s.count s.waiting) < width_after z) p.last (omega (arith, n, c.requires.few));
      };
      bytes_are = sym is ∙ sym c.len.ensures;
      bits_are = n;
    }
