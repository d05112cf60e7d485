use Rattle.std.proofs.Common.{◌≡◌, ℕ, ◌-◌, ◌*◌, ◌^◌, ◌%◌, ◌++◌, ◌∷◌, true, false, length, replicate, sym, ap, ◌∙◌, arith}
use Rattle.jls_bits.specs.Bits.{bits}
use Rattle.jls_bits.proofs.NumberBits.{length-bits}
use Rattle.jls_bits.proofs.Padding.{zero_bits}
use Rattle.jls_bits.proofs.ChunkBits.{one_of_64, below_place, after_first}
use Rattle.jls_bits.proofs.chunk.Chunk.first_one.Goals as goal

pub returns-then-self-eq0-clause-none : goal.returns-then-self-eq0-clause-none
returns-then-self-eq0-clause-none c =
    let n : ℕ = c.self.inside.count in let v : ℕ = c.self.inside.value in
    let e : c.args.self.now ≡ replicate n false = sym c.self.view_is ∙ ap (λ z. bits n z) c.if-self-eq0.true ∙ zero_bits n in
    e ∙ ap (λ z. replicate z false) (sym (length-bits n v) ∙ ap length c.self.view_is)

-- the highest one of the number is the first one of the bits
pub returns-clause-some : goal.returns-clause-some
returns-clause-some c =
    let n : ℕ = c.self.inside.count in let b : ℕ = c.ilog2-first.result in let v : ℕ = c.self.inside.value in
    let l = below_place n b v c.ilog2-first.ensures.power_le c.self.invariant.1 in
    let o : 1 * 2 ^ b % 18446744073709551616 ≡ 2 ^ b = one_of_64 b (let a = c.self.invariant.0 in omega arith) in
    sym c.self.view_is ∙ after_first n b v l c.ilog2-first.ensures.power_le c.ilog2-first.ensures.next_power_gt
    ∙ ap (λ z. replicate (n - b - 1) false ++ true ∷ bits b (v % z)) (sym o)
