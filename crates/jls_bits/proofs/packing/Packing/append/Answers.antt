use Rattle.std.proofs.Common.{arith}
use Rattle.jls_bits.specs.Bits.{bits_read}
use Rattle.jls_bits.specs.Packing.{bits_put}
use Rattle.jls_bits.proofs.PackedBits.{waiting_shifted, waiting_small, waiting_bits}
use Rattle.jls_bits.proofs.packing.Packing.append.Goals as goal

pub overflow_add-self : goal.overflow_add-self
overflow_add-self c =
    let s = c.args.self.now in let w =
    waiting_shifted s.count s.waiting c.args.count c.args.value c.requires.place c.requires.packing.waiting c.requires.value in
    omega (arith, w.0, w.1)

-- the bits that wait are still fewer than 64, in a number that they fit
pub returns-clause-packing : goal.returns-clause-packing
returns-clause-packing c =
    let s = c.args.self.now in let p = c.requires.packing in
    record {
      filled = p.filled;
      last = p.last;
      count = c.requires.place;
      waiting =
          waiting_small s.count s.waiting c.args.count c.args.value c.requires.place p.waiting c.requires.value;
    }

-- the bits are those from before, and then these
pub returns-clause-bits : goal.returns-clause-bits
unfolding bits_put
returns-clause-bits c =
    let s = c.args.self.now in
    waiting_bits s.count s.waiting c.args.count c.args.value c.requires.place c.requires.packing.waiting c.requires.value
    (bits_read s.bytes.items)
