use Rattle.std.proofs.Common.{◌≡◌, ◌++◌, arith, ap, []}
use Rattle.jls_bits.specs.Bits.{bits, bits_read_after}
use Rattle.jls_bits.specs.Unread.{Unread}
use Rattle.jls_bits.proofs.NumberBits.{bits_none, first_bit}
use Rattle.jls_bits.proofs.reader.BitReader.read_bit.Goals as goal
use Rattle.jls_bits.proofs.reader.BitReader.read_bit.Goals.{After-next_byte}

-- no bit is left of the byte
left_is : (c : After-next_byte) → c.args.self.now.left ≡ bits_read_after c.self.inside.byte c.self.inside.rest.now
left_is c =
    let h : c.self.inside.count ≡ 0 = omega arith in
    let a = ap (λ z. bits z c.self.inside.byte ++ bits_read_after c.self.inside.byte c.self.inside.rest.now) h in
    let b = bits_none c.self.inside.byte in let v = ap (λ (z : Unread). z.left) c.self.view_is in cc

pub returns-in-None-clause-none : goal.returns-in-None-clause-none
returns-in-None-clause-none c =
    let l = left_is (goal.at.returns-in-None-clause-none c).After-next_byte in let n = c.in-None.ensures.none in
    let r : c.args.self.now.left ≡ [] = cc in (r, r)

-- the bit read is the first of the next byte
pub returns-in-Some-clause-some : goal.returns-in-Some-clause-some
returns-in-Some-clause-some c =
    let l = left_is (goal.at.returns-in-Some-clause-some c).After-next_byte in let d = c.in-Some.ensures.bits in
    let e = first_bit c.in-Some.count c.in-Some.byte (bits_read_after c.in-Some.byte c.in-Some.rest.now)
    (omega (arith, c.in-Some.ensures.count)) in
    cc
