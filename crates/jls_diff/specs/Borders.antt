-- Places after a marker that stands whole in a part that all copies have alike (T.81 B.1.1.3).
use Rattle.std.specs.Prelude.{◌≡◌, ℕ, ◌-◌, ◌<◌, ◌≤◌, List, [], length, get_or, ◌⊎◌}
use Rattle.jls_diff.specs.Parts.{Part, Same, Differ}
use Rattle.jls_diff.specs.declared.border.Border.{Border}

-- the code of SOS, or of one of RST0 to RST7 (T.81 B.1.1.3)
abbrev pub IsMark : ℕ → Type 0
IsMark code = (code ≡ 0xDA) ⊎ ((0xD0 ≤ code) × (code ≤ 0xD7))

-- such a marker ends after so many of the bytes
abbrev pub IsAfterMark : List ℕ → ℕ → Type 0
IsAfterMark bytes at = (2 ≤ at) × (at ≤ length bytes) × (get_or bytes (at - 2) 0 ≡ 0xFF) × IsMark (get_or bytes (at - 1) 0)

-- all copies have the part alike, and such a marker ends after so many of its bytes
abbrev pub IsBorderOf : Part → ℕ → Type 0
IsBorderOf (Same bytes) at = IsAfterMark bytes at
IsBorderOf (Differ ways) at = ⊥

-- and this is so of the part of this number
abbrev pub IsBorder : List Part → Border → Type 0
IsBorder parts border = (border.part < length parts) × IsBorderOf (get_or parts border.part (Same [])) border.at
