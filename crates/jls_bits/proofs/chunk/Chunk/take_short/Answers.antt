use Rattle.std.proofs.Common.{◌≡◌, ℕ, ◌-◌, ◌≤◌, ◌*◌, ◌^◌, ◌%◌, ◌/◌, false, true, ◌++◌, replicate, ◌∷◌, sym, ap, subst, ◌∙◌, arith, inl, inr}
use Rattle.std.proofs.Math.Pow.{pow_mono}
use Rattle.jls_bits.specs.Bits.{bits}
use Rattle.jls_bits.specs.Chunk.{NoShortPrefix}
use Rattle.jls_bits.proofs.ChunkBits.{short_prefix, one_and_bits, without_one, one_of_64, below_place, no_one, no_short}
use Rattle.jls_bits.proofs.chunk.Chunk.take_short.Goals as goal
use Rattle.jls_bits.proofs.chunk.Chunk.take_short.Goals.{then-limit-zeros-via-then-limit-zeros}
use Rattle.jls_bits.proofs.chunk.Chunk.take_short.Goals.{then-limit-zeros-via-else-limit-zeros+then-first-k}

pub overflow_cast-result : goal.overflow_cast-result
overflow_cast-result c =
    let b : ℕ = c.ilog2-first.result in let k : ℕ = c.args.k in let v : ℕ = c.self.inside.value in
    let n = one_and_bits b k v c.ilog2-first.ensures.power_le c.ilog2-first.ensures.next_power_gt (omega (arith, c.if-first-k.false)) in
    let p : 2 ^ k ≤ 2 ^ 16 = pow_mono {i = k} {j = 16} (omega (arith, c.requires.k)) in omega (arith, n.1)

pub returns-clause-number : goal.returns-clause-number
returns-clause-number c =
    one_and_bits c.ilog2-first.result c.args.k c.self.inside.value c.ilog2-first.ensures.power_le c.ilog2-first.ensures.next_power_gt
    (omega (arith, c.if-first-k.false))

-- the zeros, the one and the k bits stand at the start, and the rest is left
pub returns-clause-some : goal.returns-clause-some
returns-clause-some c =
    let b : ℕ = c.ilog2-first.result in let k : ℕ = c.args.k in let v : ℕ = c.self.inside.value in
    let l = below_place c.self.inside.count b v c.ilog2-first.ensures.power_le c.self.invariant.1 in
    let h : k ≤ b = omega (arith, c.if-first-k.false) in
    let n = one_and_bits b k v c.ilog2-first.ensures.power_le c.ilog2-first.ensures.next_power_gt h in
    let o : v / 2 ^ (b - k) % 2 ^ k ≡ v / 2 ^ (b - k) - 2 ^ k = without_one k (v / 2 ^ (b - k)) n.0 n.1 in
    let p : 1 * 2 ^ (b - k) % 18446744073709551616 ≡ 2 ^ (b - k) = one_of_64 (b - k) (let a = c.self.invariant.0 in omega arith) in
    sym c.self.view_is ∙ short_prefix c.self.inside.count b k v l c.ilog2-first.ensures.power_le c.ilog2-first.ensures.next_power_gt h
    ∙ ap (λ z. replicate (c.self.inside.count - b - 1) false ++ true ∷ (bits k z ++ bits (b - k) (v % 2 ^ (b - k)))) o
    ∙ ap (λ z. replicate (c.self.inside.count - b - 1) false ++ true ∷ (bits k (v / 2 ^ (b - k) - 2 ^ k) ++ bits (b - k) (v % z))) (sym p)

pub returns-then-self-eq0-clause-none_stands : goal.returns-then-self-eq0-clause-none_stands
returns-then-self-eq0-clause-none_stands c =
    subst (NoShortPrefix c.args.limit c.args.k) c.self.view_is
    (no_one c.self.inside.count c.self.inside.value c.args.limit c.args.k c.if-self-eq0.true)

-- with too many zeros, or too few bits after the one, no short code stands whole
pub returns-then-limit-zeros-clause-none_stands : goal.returns-then-limit-zeros-clause-none_stands
returns-then-limit-zeros-clause-none_stands c =
    let b : ℕ = c.ilog2-first.result in let v : ℕ = c.self.inside.value in let n : ℕ = c.self.inside.count in
    let l = below_place n b v c.ilog2-first.ensures.power_le c.self.invariant.1 in
    let none = no_short n b v c.args.limit c.args.k l c.ilog2-first.ensures.power_le c.ilog2-first.ensures.next_power_gt in
    subst (NoShortPrefix c.args.limit c.args.k) c.self.view_is
    (none (elim c.then-limit-zeros.branch [
      | then-limit-zeros-via-then-limit-zeros w ↦ inl (omega arith)
      | then-limit-zeros-via-else-limit-zeros+then-first-k w ↦
          inr (omega arith)
    ]))
