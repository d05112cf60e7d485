use Rattle.std.proofs.Common.{◌≡◌, ℕ, ◌+◌, ◌-◌, ◌*◌, ◌^◌, ◌%◌, ◌/◌, ◌<◌, ◌≤◌, ◌++◌, sym, ap, ◌∙◌, arith}
use Rattle.std.proofs.Math.Pow.{pow_mono}
use Rattle.jls_bits.specs.Bits.{bits}
use Rattle.jls_bits.proofs.ChunkBits.{first_bits, first_number, one_of_64}
use Rattle.jls_bits.proofs.chunk.Chunk.take_bits.Goals as goal

pub overflow_cast-result : goal.overflow_cast-result
overflow_cast-result c =
    let n : ℕ = c.args.count in let m : ℕ = c.self.inside.count - n in
    let l = first_number n m c.self.inside.count c.self.inside.value (omega arith) c.self.invariant.1 in
    let p : 2 ^ n ≤ 2 ^ 16 = pow_mono {i = n} {j = 16} c.requires.1 in omega arith

pub returns-clause-number : goal.returns-clause-number
returns-clause-number c =
    first_number c.args.count (c.self.inside.count - c.args.count) c.self.inside.count c.self.inside.value (omega arith) c.self.invariant.1

-- the bits taken are the first, and the others are left
pub returns-clause-some : goal.returns-clause-some
returns-clause-some c =
    let n : ℕ = c.args.count in let m : ℕ = c.self.inside.count - n in let v : ℕ = c.self.inside.value in
    let o : 1 * 2 ^ m % 18446744073709551616 ≡ 2 ^ m = one_of_64 m (let a = c.self.invariant.0 in omega arith) in
    sym c.self.view_is ∙ first_bits n m c.self.inside.count v (omega arith)
    ∙ ap (λ z. bits n (v / 2 ^ m) ++ bits m (v % z)) (sym o)
