-- Mended files. A mended file has bytes that some copy has too, and others, which stand in place of damaged ones.
use Rattle.std.specs.Prelude.{◌≡◌, ℕ, Bool, true, false, List, get_or}

-- a file, and for each of its bytes whether some copy has it
pub record MendedFile : Type 0 where
  pub bytes : List ℕ
  pub held : List Bool

-- the byte at this offset is held: some copy has it
abbrev pub IsHeldByte : MendedFile → ℕ → Type 0
IsHeldByte f offset = get_or f.held offset false ≡ true

-- these are the bytes of another file, which has each held byte at the same offset
abbrev pub HasHeldBytes : MendedFile → List ℕ → Type 0
HasHeldBytes f bytes = (offset : ℕ) → IsHeldByte f offset → get_or f.bytes offset 0 ≡ get_or bytes offset 0
