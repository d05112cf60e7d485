-- Bits that wait to be read: the data bits of bytes, one byte after another.
use Rattle.std.specs.Prelude.{◌≡◌, ℕ, Bool, true, List, ◌++◌}
use Rattle.std.specs.List.{flat_map}
use Rattle.jls_bits.specs.Bits.{bits}
use Rattle.jls_bits.specs.Golomb.{golomb, has_golomb}
use Rattle.jls_pixel.specs.declared.data_bits.DataBits.{DataBits}

-- the data bits of a byte
abbrev pub bits_of : DataBits → List Bool
bits_of d = bits d.count d.value

-- those of bytes, one after another
abbrev pub bits_of_all : List DataBits → List Bool
bits_of_all ds = flat_map bits_of ds

-- the code LG(k, g) of this number was read from the start of the bits (T.87 A.5.3)
abbrev pub ReadsCode : ℕ → ℕ → ℕ → List Bool → List Bool → ℕ → Type 0
ReadsCode k g qbpp given unread number = (has_golomb k g qbpp number ≡ true) × (given ≡ golomb k g qbpp number ++ unread)
