-- The front of bits: the bytes that they fill, and the bits after these (T.87 A.1).
use Rattle.std.specs.Prelude.{◌≡◌, ℕ, ◌<◌, Bool, List, ◌++◌, length}
use Rattle.jls_bits.specs.Bits.{bits_read, width_after}
use Rattle.jls_bits.specs.Appending.{last_after, AreFilled}
use Rattle.jls_bits.specs.declared.writer.BitPlace.{BitPlace}

-- The bytes are those that the bits fill. Fewer bits come after them than the next byte carries (T.87 A.1)
pub record IsFront (given : List Bool) (bytes : List ℕ) : Type 0 where
  pub filled : AreFilled bytes
  pub over : List Bool
  pub given_is : given ≡ bits_read bytes ++ over
  pub few : length over < width_after (last_after 0 bytes)

-- the bits end at this place: after so many bytes that they fill, and so many bits of the next one
pub record EndsAt (given : List Bool) (place : BitPlace) : Type 0 where
  pub bytes : List ℕ
  pub front : IsFront given bytes
  pub bytes_are : length bytes ≡ place.bytes
  pub bits_are : length front.over ≡ place.bits

-- bytes that have data bits begin with the front of their first data bits, whatever bits follow these
abbrev pub FrontsBeginBytes : Type 0
FrontsBeginBytes =
    (given more : List Bool) (bytes front : List ℕ) → AreFilled bytes → bits_read bytes ≡ given ++ more → IsFront given front
    → (rest : List ℕ) × (bytes ≡ front ++ rest)

-- the front of first bits begins that of all
abbrev pub FrontsGrow : Type 0
FrontsGrow =
    (given more : List Bool) (front longer : List ℕ) → IsFront given front → IsFront (given ++ more) longer
    → (rest : List ℕ) × (longer ≡ front ++ rest)

-- bits have one front
abbrev pub FrontsAreOne : Type 0
FrontsAreOne = (given : List Bool) (front other : List ℕ) → IsFront given front → IsFront given other → front ≡ other
