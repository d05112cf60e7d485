-- A Golomb code (T.87 A.5.3) that is read bit by bit: which bits a state stands for, and what one more bit makes of them.
use Rattle.std.specs.Prelude.{◌≡◌, ℕ, ◌+◌, ◌-◌, ◌*◌, ◌^◌, ◌≤◌, ◌<◌, Bool, true, false, List, ◌∷◌, ◌++◌, replicate}
use Rattle.jls_bits.specs.Bits.{bits}
use Rattle.jls_bits.specs.Golomb.{escape_zeros, golomb, has_golomb}
use Rattle.jls_bits.specs.declared.code_state.CodeState.{CodeState}
use Rattle.jls_bits.specs.declared.code_state.CodeState.TheVariants.{Zeros, Remainder, Escape}
use Rattle.jls_bits.specs.declared.code_state.CodeStep.{CodeStep}
use Rattle.jls_bits.specs.declared.code_state.CodeStep.TheVariants.{More, Done, Refused}

-- the bits that led to the state
abbrev pub bits_fed : ℕ → ℕ → CodeState → List Bool
bits_fed g qbpp (Zeros zeros) = replicate zeros false
bits_fed g qbpp (Remainder quotient count value) = replicate quotient false ++ true ∷ bits count value
bits_fed g qbpp (Escape count value) = replicate (escape_zeros g qbpp) false ++ true ∷ bits count value

-- The bits of the state begin some code and are not all of it. An escape is open as long as the largest number that its bits can still give
-- has no short code (T.87 A.5.3)
abbrev pub IsOpen : ℕ → ℕ → ℕ → CodeState → Type 0
IsOpen k g qbpp (Zeros zeros) =
    (zeros ≤ escape_zeros g qbpp) × (zeros ≡ escape_zeros g qbpp → escape_zeros g qbpp * 2 ^ k ≤ 2 ^ qbpp)
IsOpen k g qbpp (Remainder quotient count value) = (quotient < escape_zeros g qbpp) × (count < k) × (value < 2 ^ count)
IsOpen k g qbpp (Escape count value) =
    (count < qbpp) × (value < 2 ^ count) × (escape_zeros g qbpp * 2 ^ k ≤ (value + 1) * 2 ^ (qbpp - count))

-- the bits of a state begin a short code: they are fewer zeros than an escape's, or have a one after fewer (T.87 A.5.3)
abbrev pub IsOfShort : ℕ → ℕ → CodeState → Type 0
IsOfShort g qbpp (Zeros zeros) = zeros < escape_zeros g qbpp
IsOfShort g qbpp (Remainder quotient count value) = quotient < escape_zeros g qbpp
IsOfShort g qbpp (Escape count value) = ⊥

-- bits are a proper prefix of some number's code (T.87 A.5.3)
pub record BeginsCode (k g qbpp : ℕ) (given : List Bool) : Type 0 where
  pub number : ℕ
  pub next : Bool
  pub more : List Bool
  pub has : has_golomb k g qbpp number ≡ true
  pub code : golomb k g qbpp number ≡ given ++ next ∷ more

-- whatever bits follow, they begin with no code (T.87 A.5.3)
abbrev pub RefusesCode : ℕ → ℕ → ℕ → List Bool → Type 0
RefusesCode k g qbpp given =
    (number : ℕ) (more rest : List Bool) → has_golomb k g qbpp number ≡ true → given ++ more ≡ golomb k g qbpp number ++ rest → ⊥

-- what the answer of a step means for the bits so far and the new one
abbrev pub StepIs : ℕ → ℕ → ℕ → List Bool → CodeStep → Type 0
StepIs k g qbpp given (More state) = IsOpen k g qbpp state × (bits_fed g qbpp state ≡ given) × BeginsCode k g qbpp given
StepIs k g qbpp given (Done number) = (has_golomb k g qbpp number ≡ true) × (golomb k g qbpp number ≡ given)
StepIs k g qbpp given Refused = RefusesCode k g qbpp given
