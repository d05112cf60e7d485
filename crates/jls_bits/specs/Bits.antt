-- The bits of numbers, and the data bits that bytes carry where a bit 0 is stuffed after each byte 0xFF (T.87 A.1).
use Rattle.std.specs.Prelude.{◌≡◌, ℕ, zero, suc, ◌+◌, ◌/◌, ◌%◌, ◌^◌, ◌<◌, Bool, true, not, ◌&&◌, nat_le, ◌==◌, if◌then◌else◌}
use Rattle.std.specs.Prelude.{List, [], ◌∷◌, ◌++◌, length}

-- the low `count` bits of a number, the most significant first (T.87 A.5.3)
unfoldable pub bits : ℕ → ℕ → List Bool
bits zero value = []
bits (suc count) value = ((value / 2 ^ count) % 2 == 1) ∷ bits count value

-- the number that these bits are, the most significant first (T.87 A.5.3)
unfoldable pub value_of_bits : List Bool → ℕ
value_of_bits [] = 0
value_of_bits (b ∷ bs) = (if b then 2 ^ length bs else 0) + value_of_bits bs

-- how many data bits the byte after `before` carries: its low seven after 0xFF, since its top bit is stuffed, else all eight (T.87 A.1)
unfoldable pub width_after : ℕ → ℕ
width_after before = if (before == 0xFF) then 7 else 8

-- whether the byte x, of 0x80 or more, follows 0xFF: no data byte does, only the code of a marker (T.87 A.1)
unfoldable pub ends_data : ℕ → ℕ → Bool
ends_data before x = (before == 0xFF) && nat_le 0x80 x

-- the data bits of the bytes that follow the byte `before`, read up to the first byte that ends the data (T.87 A.1)
unfoldable pub bits_read_after : ℕ → List ℕ → List Bool
bits_read_after before [] = []
bits_read_after before (x ∷ xs) =
    if (ends_data before x) then [] else bits (width_after before) x ++ bits_read_after x xs

-- whether none of the bytes that follow the byte `before` ends the data (T.87 A.1)
unfoldable pub is_whole_after : ℕ → List ℕ → Bool
is_whole_after before [] = true
is_whole_after before (x ∷ xs) = not (ends_data before x) && is_whole_after x xs

-- the bits that can be read from the bytes: those before the first byte of 0x80 or more that follows 0xFF (T.87 A.1)
abbrev pub bits_read : List ℕ → List Bool
bits_read bytes = bits_read_after 0 bytes

-- whether no byte of 0x80 or more follows 0xFF (T.87 A.1)
abbrev pub is_whole : List ℕ → Bool
is_whole bytes = is_whole_after 0 bytes

-- each byte that follows 0xFF is below 0x80, as its stuffed bit makes it: the same as `is_whole`, said of the list as a whole (T.87 A.1)
abbrev pub BelowMarkers : List ℕ → Type 0
BelowMarkers bytes = (prefix back : List ℕ) (x : ℕ) → bytes ≡ prefix ++ 0xFF ∷ (x ∷ back) → x < 0x80

-- The bytes have data bits, and these are they. Bytes in which one of 0x80 or more follows 0xFF have none (T.87 A.1)
pub record AreDataBits (bytes : List ℕ) (given : List Bool) : Type 0 where
  pub whole : is_whole bytes ≡ true
  pub read : bits_read bytes ≡ given
