-- Bytes that bits are appended to.
use Rattle.std.specs.Prelude.{◌≡◌, ℕ, ◌<◌, true, List, [], ◌∷◌}
use Rattle.std.specs.List.{AllByRecursion}
use Rattle.jls_bits.specs.Bits.{is_whole}

-- the last of the bytes, or where there is none the byte before them
abbrev pub last_after : ℕ → List ℕ → ℕ
last_after before [] = before
last_after before (x ∷ xs) = last_after x xs

-- bytes that have data bits
pub record AreFilled (bytes : List ℕ) : Type 0 where
  pub are_bytes : AllByRecursion (λ x. x < 256) bytes
  pub whole : is_whole bytes ≡ true
