use Rattle.std.proofs.Common.{◌≡◌, ℕ, ◌+◌, ◌-◌, ◌*◌, ◌^◌, ◌%◌, arith}
use Rattle.jls_bits.proofs.ChunkBits.{one_zero_less}
use Rattle.jls_bits.proofs.ChunkSteps.{short_prefix, not_short}
use Rattle.jls_bits.proofs.chunk.Chunk.take_code.Goals as goal

-- the bits taken are the code of the number
pub returns-in-Some-clause-some : goal.returns-in-Some-clause-some
returns-in-Some-clause-some c =
    let k : ℕ = c.args.k in let z : ℕ = c.in-Some.zeros in let x : ℕ = c.in-Some.number in let e = c.in-Some.ensures in
    let w : (x + (z + 4294967295) % 4294967296 * 2 ^ k % 4294967296) % 4294967296 ≡ z * 2 ^ k + (x - 2 ^ k) =
    one_zero_less z k x (omega (arith, e.zeros, c.requires.g)) (omega (arith, c.requires.k)) e.number.0 e.number.1 in
    short_prefix k c.args.g c.args.qbpp z (x - 2 ^ k) c.args.self.now c.take_short.new.self
    ((x + (z + 4294967295) % 4294967296 * 2 ^ k % 4294967296) % 4294967296) e.zeros (omega (arith, e.number)) w e.some

pub returns-in-None-clause-none_stands : goal.returns-in-None-clause-none_stands
returns-in-None-clause-none_stands c = not_short c.args.k c.args.g c.args.qbpp c.args.self.now c.in-None.ensures.none_stands
