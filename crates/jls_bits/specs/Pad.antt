-- The bytes in which an interval's bits are written (T.87 A.1): filled up with zeros, and never with 0xFF last, which is this
-- project's choice.
use Rattle.std.specs.Prelude.{◌≡◌, ℕ, ◌+◌, ◌<◌, ◌-◌, ◌≤◌, Bool, false, ◌==◌, if◌then◌else◌, List, [], ◌∷◌, ◌++◌, length, replicate}
use Rattle.std.specs.List.{AllByRecursion}
use Rattle.jls_bits.specs.Bits.{value_of_bits, width_after, AreDataBits}

-- bytes, not ending in 0xFF, whose data bits are these bits and then zeros alone (T.87 A.1)
pub record Carries (given : List Bool) (bytes : List ℕ) : Type 0 where
  pub are_bytes : AllByRecursion (λ x. x < 256) bytes
  pub zeros : ℕ
  pub data_bits : AreDataBits bytes (given ++ replicate zeros false)
  pub last : (prefix : List ℕ) → bytes ≡ prefix ++ 0xFF ∷ [] → ⊥

-- the shortest such bytes (T.87 A.1)
pub record IsPad (given : List Bool) (bytes : List ℕ) : Type 0 where
  pub carries : Carries given bytes
  pub shortest : (others : List ℕ) → Carries given others → length bytes ≤ length others

-- the bytes for the last bits, fewer than a byte carries after `before`: zeros fill the byte up. If no bit is left, a byte is needed after
-- 0xFF alone (T.87 A.1)
abbrev pub last_bytes : ℕ → List Bool → List ℕ
last_bytes before [] = if (before == 0xFF) then 0 ∷ [] else []
last_bytes before (p ∷ ps) =
    value_of_bits ((p ∷ ps) ++ replicate (width_after before - length (p ∷ ps)) false) ∷ []

-- the bytes for the bits `pending` and then `given` after the byte `before`, if the pending ones fill no byte (T.87 A.1)
unfoldable pub pad_after : ℕ → List Bool → List Bool → List ℕ
pad_after before pending [] = last_bytes before pending
pad_after before pending (b ∷ bs) =
    let full = length pending + 1 == width_after before in let byte = value_of_bits (pending ++ b ∷ []) in
    let rest = pad_after (if full then byte else before) (if full then [] else pending ++ b ∷ []) bs in if full then byte ∷ rest else rest

-- the pad, computed; that `IsPad` holds of it and of nothing else is the law `bits_have_one_pad` (T.87 A.1)
abbrev pub pad : List Bool → List ℕ
pad given = pad_after 0 [] given
