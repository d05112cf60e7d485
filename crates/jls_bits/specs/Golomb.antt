-- Golomb codes of a limited length (T.87 A.5.3): LG(k, g) of a number, with qbpp bits in an escape.
use Rattle.std.specs.Prelude.{◌≡◌, ℕ, ◌-◌, ◌/◌, ◌^◌, Bool, true, false, ◌&&◌, nat_lt, nat_le, if◌then◌else◌, List, ◌∷◌, ◌++◌, replicate}
use Rattle.jls_bits.specs.Bits.{bits}

-- how many zeros announce an escape (T.87 A.5.3)
abbrev pub escape_zeros : ℕ → ℕ → ℕ
escape_zeros g qbpp = g - qbpp - 1

-- whether the number has a short code: its quotient by 2^k takes fewer zeros than an escape (T.87 A.5.3)
abbrev pub is_short : ℕ → ℕ → ℕ → ℕ → Bool
is_short k g qbpp m = nat_lt (m / 2 ^ k) (escape_zeros g qbpp)

-- the code of m. A short one has as many zeros as its quotient, a one, and its low k bits. An escape has its zeros, a one, and m - 1 in
-- qbpp bits (T.87 A.5.3)
unfoldable pub golomb : ℕ → ℕ → ℕ → ℕ → List Bool
golomb k g qbpp m =
    if (is_short k g qbpp m) then replicate (m / 2 ^ k) false ++ true ∷ bits k m
    else replicate (escape_zeros g qbpp) false ++ true ∷ bits qbpp (m - 1)

-- whether m has a code: every number with a short one has, and of the others those from 1 to 2^qbpp (T.87 A.5.3)
abbrev pub has_golomb : ℕ → ℕ → ℕ → ℕ → Bool
has_golomb k g qbpp m = if (is_short k g qbpp m) then true else nat_le 1 m && nat_le m (2 ^ qbpp)

-- the bits begin with no number's code; an escape for a number that has a short code is no code (T.87 A.5.3)
abbrev pub NoCodeBegins : ℕ → ℕ → ℕ → List Bool → Type 0
NoCodeBegins k g qbpp given =
    (m : ℕ) (rest : List Bool) → has_golomb k g qbpp m ≡ true → given ≡ golomb k g qbpp m ++ rest → ⊥

-- no short code is complete at the start of the bits (T.87 A.5.3)
abbrev pub NoShortCodeBegins : ℕ → ℕ → ℕ → List Bool → Type 0
NoShortCodeBegins k g qbpp given =
    (m : ℕ) (rest : List Bool) → is_short k g qbpp m ≡ true → given ≡ golomb k g qbpp m ++ rest → ⊥

-- the bits are a prefix of the code of m: its first bits, or all of it (T.87 A.5.3)
pub record BeginsCodeOf (k g qbpp : ℕ) (given : List Bool) (m : ℕ) : Type 0 where
  pub rest : List Bool
  pub code : golomb k g qbpp m ≡ given ++ rest

-- the bits are the code of m (T.87 A.5.3)
pub record IsCodeOf (k g qbpp : ℕ) (given : List Bool) (m : ℕ) : Type 0 where
  pub has : has_golomb k g qbpp m ≡ true
  pub code : golomb k g qbpp m ≡ given

-- the bits are a prefix of no number's code (T.87 A.5.3)
abbrev pub BeginsNoGolombCode : ℕ → ℕ → ℕ → List Bool → Type 0
BeginsNoGolombCode k g qbpp given = (m : ℕ) → has_golomb k g qbpp m ≡ true → BeginsCodeOf k g qbpp given m → ⊥
