-- What the fields of a `GolombReader` say of the bits that were pushed.
use Rattle.std.specs.Prelude.{◌≡◌, ℕ, ◌+◌, ◌≤◌, Bool, true, List, [], ◌∷◌, ◌++◌}
use Rattle.jls_bits.specs.Golomb.{golomb, has_golomb}
use Rattle.jls_bits.specs.CodeState.{bits_fed, IsOpen, RefusesCode}
use Rattle.jls_bits.specs.declared.golomb_reader.Progress.{Progress}
use Rattle.jls_bits.specs.declared.golomb_reader.Progress.TheVariants.{Open, Done, Refused}

-- the bits that led there
abbrev pub bits_of : ℕ → ℕ → ℕ → Progress → List Bool
bits_of k g qbpp (Open state) = bits_fed g qbpp state
bits_of k g qbpp (Done number) = golomb k g qbpp number
bits_of k g qbpp (Refused state bit) = bits_fed g qbpp state ++ bit ∷ []

-- what they are
abbrev pub IsProgress : ℕ → ℕ → ℕ → Progress → Type 0
IsProgress k g qbpp (Open state) = IsOpen k g qbpp state
IsProgress k g qbpp (Done number) = has_golomb k g qbpp number ≡ true
IsProgress k g qbpp (Refused state bit) = RefusesCode k g qbpp (bits_fed g qbpp state ++ bit ∷ [])

-- what the fields of a `GolombReader` keep: k, qbpp and g in their ranges, and what the bits pushed have come to
pub record IsReadingCode (k g qbpp : ℕ) (progress : Progress) : Type 0 where
  pub k_fits : k ≤ 16
  pub qbpp_fits : (1 ≤ qbpp) × (qbpp ≤ 16)
  pub g_fits : (qbpp + 2 ≤ g) × (g ≤ 64)
  pub progress_is : IsProgress k g qbpp progress
