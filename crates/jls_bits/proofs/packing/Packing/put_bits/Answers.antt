use Rattle.std.proofs.Common.{arith}
use Rattle.jls_bits.proofs.DataBits.{width_bounds}
use Rattle.jls_bits.proofs.packing.Packing.put_bits.Goals as goal

pub append-requires-clause-place : goal.append-requires-clause-place
append-requires-clause-place c =
    let w = width_bounds c.put_bytes.new.self.last in omega (arith, w, c.put_bytes.ensures.few, c.requires.count)
