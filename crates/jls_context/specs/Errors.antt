-- The error of a prediction, modulo RANGE (T.87, A.4.3 to A.4.5), and how it is mapped to a number (A.5.2).
use Rattle.std.specs.Prelude.{◌≡◌, ℕ, ◌+◌, ◌*◌, ◌/◌, Bool, if◌then◌else◌, ℤ, pos, negsuc, ◌-ℤ◌, neg_ℤ, ◌≤ℤ◌, ◌<ℤ◌, int_le}
use Rattle.std.specs.Int.{int_rem_euclid}
use Rattle.jls_values.specs.Params.{CodingParameters, range}
use Rattle.jls_context.specs.Mode.{with_sign}

-- the errors: from -floor(RANGE/2) to ceil(RANGE/2) - 1 (T.87 A.4.5)
pub record IsError (p : CodingParameters) (e : ℤ) : Type 0 where
  pub at_least : neg_ℤ (pos (range p / 2)) ≤ℤ e
  pub below : e <ℤ pos ((range p + 1) / 2)

-- the numbers leave the same remainder from 0 to modulus - 1
abbrev pub IsCongruent : ℕ → ℤ → ℤ → Type 0
IsCongruent modulus x y = int_rem_euclid x (pos modulus) ≡ int_rem_euclid y (pos modulus)

-- the error that is congruent to a difference modulo RANGE (T.87 A.4.5)
pub record IsModuloReduced (p : CodingParameters) (difference e : ℤ) : Type 0 where
  pub is_error : IsError p e
  pub congruent : IsCongruent (range p) difference e

-- a difference, reduced modulo RANGE: the remainder from 0 to RANGE - 1, less RANGE if it is at least ceil(RANGE/2) (T.87 A.4.5)
unfoldable pub modulo_reduced : CodingParameters → ℤ → ℤ
modulo_reduced p difference =
    let remainder = int_rem_euclid difference (pos (range p)) in
    if int_le (pos ((range p + 1) / 2)) remainder then remainder -ℤ pos (range p) else remainder

-- SIGN * (sample - prediction), reduced (T.87 A.4.3, A.4.5)
abbrev pub prediction_error : CodingParameters → Bool → ℕ → ℕ → ℤ
prediction_error p negative sample prediction =
    modulo_reduced p (with_sign negative (pos sample -ℤ pos prediction))

-- an error as a number: by the regular mapping 0, -1, 1, -2, 2, .. in this order, or by the special mapping -1, 0, -2, 1, .. `negsuc n` is
-- -n - 1 (T.87 A.5.2)
abbrev pub error_mapped : Bool → ℤ → ℕ
error_mapped special (pos n) = if special then 2 * n + 1 else 2 * n
error_mapped special (negsuc n) = if special then 2 * n else 2 * n + 1
