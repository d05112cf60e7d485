use Rattle.std.proofs.Common.{arith, ap, length, length-append}
use Rattle.jls_bits.specs.Bits.{bits, bits_read_after}
use Rattle.jls_bits.specs.Unread.{Unread}
use Rattle.jls_bits.proofs.NumberBits.{length-bits}
use Rattle.jls_bits.proofs.reader.BitReader.left.Goals as goal

-- the bits left are those of the byte in hand and of the bytes after it
pub returns : goal.returns
returns c =
    let v = ap (λ (z : Unread). length z.left) c.self.view_is in
    let a = length-append (bits c.self.inside.count c.self.inside.byte) (bits_read_after c.self.inside.byte c.self.inside.rest.now) in
    let b = length-bits c.self.inside.count c.self.inside.byte in
    omega (arith, v, a, b, c.count_bits.ensures.count)
