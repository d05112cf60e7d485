-- The least number that passes a test.
use Rattle.std.proofs.Common.{◌≡◌, ℕ, zero, suc, ◌+◌, ◌*◌, ◌^◌, ◌<◌, ◌≤◌, Bool, true, false, leb, ◌∙◌, ap, arith, inl, inr, lit<}
use Rattle.std.proofs.lemmas.Bool.{cases_lt, le-leb, lt-leb}
use Rattle.std.proofs.lemmas.Grind.{pow_more}
use Rattle.std.proofs.Math.Nat.{pow-le-pow_right}
use Rattle.jls_values.specs.Params.{least_from}

-- the first to pass, where none before it does
pub least_from-first : (passes : ℕ → Bool) (count from least : ℕ) → from ≤ least → least ≤ from + count
    → ((k : ℕ) → from ≤ k → k < least → passes k ≡ false) → passes least ≡ true → least_from passes count from ≡ least
unfolding least_from
least_from-first passes zero from least low high before here = omega arith
least_from-first passes (suc count) from least low high before here =
    elim (cases_lt from least) [
      | inl lt ↦ rw (before from (omega arith) lt)
          (least_from-first passes count (suc from) least (omega arith) (omega arith)
          (λ k at_least below. before k (omega arith) below) here)
      | inr le ↦ let same : from ≡ least = omega arith in rw (ap passes same ∙ here) same
    ]

-- RANGE values are held by one bit more than the logarithm of MAXVAL, and by no fewer
pub qbpp-log : (maxval log : ℕ) → 2 ^ log ≤ maxval → maxval < 2 * 2 ^ log → log < 16
    → least_from (λ bits. leb (maxval + 1) (2 ^ bits)) 16 0 ≡ log + 1
qbpp-log maxval log low high small =
    let more : 2 ^ (log + 1) ≡ 2 ^ log * 2 = pow_more 2 log in
    least_from-first (λ bits. leb (maxval + 1) (2 ^ bits)) 16 0 (log + 1) (omega arith) (omega arith)
    (λ k at_least below. lt-leb _ _ (let le : 2 ^ k ≤ 2 ^ log = pow-le-pow_right (lit< tt) (omega arith) in omega arith))
    (le-leb _ _ (omega arith))
