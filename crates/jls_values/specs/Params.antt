-- Coding parameters: the preset values in force for a scan (T.87, C.2.4.1.1), and the numbers that follow
-- from MAXVAL in lossless coding (T.87, A.2.1, with NEAR 0).
use Rattle.std.specs.Prelude.{ℕ, zero, suc, ◌+◌, ◌*◌, ◌^◌, ◌≤◌, ◌<◌, max, Bool, nat_le, if◌then◌else◌}

-- the coding parameters in force: bits per sample, MAXVAL, the thresholds T1, T2 and T3 of the gradients, and RESET (T.87 C.2.4.1.1)
pub record CodingParameters : Type 0 where
  pub precision : ℕ
  pub maxval : ℕ
  pub t1 : ℕ
  pub t2 : ℕ
  pub t3 : ℕ
  pub reset : ℕ

-- the ranges of coding parameters: those of T.87, table C.1, at NEAR 0 and at the precisions of this project
pub record AreCodingParameters (p : CodingParameters) : Type 0 where
  pub precision_at_least : 2 ≤ p.precision
  pub precision_at_most : p.precision ≤ 16
  pub maxval_at_least : 1 ≤ p.maxval
  pub maxval_below : p.maxval < 2 ^ p.precision
  pub t1_at_least : 1 ≤ p.t1
  pub t2_at_least : p.t1 ≤ p.t2
  pub t3_at_least : p.t2 ≤ p.t3
  pub t3_at_most : p.t3 ≤ p.maxval
  pub reset_at_least : 3 ≤ p.reset
  pub reset_at_most : p.reset ≤ max 255 p.maxval

-- the first of `count` numbers from `from` on that passes the test, or the number after them
unfoldable pub least_from : (ℕ → Bool) → ℕ → ℕ → ℕ
least_from passes zero from = from
least_from passes (suc count) from = let later = least_from passes count (suc from) in if passes from then from else later

-- RANGE: how many values a sample can have (T.87 A.2.1)
abbrev pub range : CodingParameters → ℕ
range p = p.maxval + 1

-- qbpp: the least number of bits that hold RANGE values (T.87 A.2.1)
abbrev pub qbpp : CodingParameters → ℕ
qbpp p = least_from (λ bits. nat_le (range p) (2 ^ bits)) 16 0

-- bpp: the least number of bits that hold a sample, but at least 2 (T.87 A.2.1)
abbrev pub bpp : CodingParameters → ℕ
bpp p = max 2 (qbpp p)

-- LIMIT: how long the Golomb code of a regular sample may be, in bits (T.87 A.2.1)
abbrev pub limit : CodingParameters → ℕ
limit p = 2 * (bpp p + max 8 (bpp p))
