-- Samples that have more bits than a precision.
use Rattle.std.proofs.Common.{◌≡◌, ℕ, ◌^◌, false, ◌||◌, arith}
use Rattle.std.specs.Prelude.{nat_le}
use Rattle.std.specs.Int.Bits.{bit_or}
use Rattle.std.proofs.lemmas.Nat.{le_or_l, le_or_r, or_lt, pow_pos}
use Rattle.std.proofs.lemmas.Bool.Decides.{nat_tests}

-- the OR of two numbers has more than k bits exactly where one of them has
pub large_union : (k a b : ℕ) → nat_le (2 ^ k) (bit_or a b) ≡ (nat_le (2 ^ k) a || nat_le (2 ^ k) b)
large_union k a b = let l = le_or_l a b in let r = le_or_r a b in let lt = or_lt k a b in grind (arith, nat_tests, l, r, lt)

-- 0 has no more bits than k
pub large_none : (k : ℕ) → nat_le (2 ^ k) 0 ≡ false
large_none k = let p = pow_pos k in grind (arith, nat_tests, p)
