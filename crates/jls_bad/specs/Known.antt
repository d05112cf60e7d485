-- What is known of copies of one file, of which bytes in some places are known to be bad.
use Rattle.std.specs.Prelude.{◌≡◌, ℕ, ◌+◌, ◌-◌, ◌<◌, ◌≤◌, Bool, ◌&&◌, ◌==◌, nat_le, nat_lt, List, [], ◌∷◌, length, map, slice_get, Option}
use Rattle.std.specs.Prelude.{Some, None, IfSome, if◌then◌else◌}
use Rattle.std.specs.Option.{option_or}
use Rattle.std.specs.List.{list_any, AllZip}
use Rattle.jls_bad.specs.declared.place.Place.{Place}

-- a copy, and its bad places
pub record Copy : Type 0 where
  pub bytes : List ℕ
  pub places : List Place

-- a place has the byte at an offset
abbrev pub covers : ℕ → Place → Bool
covers offset place = nat_le place.offset offset && nat_lt offset (place.offset + place.length)

-- some place has it
abbrev pub is_bad : List Place → ℕ → Bool
is_bad places offset = list_any (covers offset) places

-- the byte that a copy is known to have at an offset
abbrev pub known_byte : Copy → ℕ → Option ℕ
known_byte copy offset = if is_bad copy.places offset then None else slice_get copy.bytes offset

-- the first that is there
abbrev pub first_there : List (Option ℕ) → Option ℕ
first_there [] = None
first_there (byte ∷ bytes) = option_or byte (first_there bytes)

-- the byte that another copy, as long as this one, is known to have there
abbrev pub byte_beside : Copy → Copy → ℕ → Option ℕ
byte_beside copy other offset = if length other.bytes == length copy.bytes then known_byte other offset else None

-- the byte for a copy at an offset: the one that it is known to have, or else the one that the first copy as long is known to have
abbrev pub byte_for : List Copy → Copy → ℕ → Option ℕ
byte_for copies copy offset = option_or (known_byte copy offset) (first_there (map (λ other. byte_beside copy other offset) copies))

-- no copy as long is known to have a byte there
abbrev pub IsLost : List Copy → Copy → ℕ → Type 0
IsLost copies copy offset = byte_for copies copy offset ≡ None

-- what can stand for a copy among these copies
pub record IsKnownCopy (copies : List Copy) (copy : Copy) (known : List ℕ) : Type 0 where
  -- it has no more bytes
  pub size : length known ≤ length copy.bytes
  -- it has the byte for the copy, but for lost bytes and the first byte behind them
  pub bytes : (offset : ℕ) → offset < length known → (0 < offset → IsLost copies copy (offset - 1) → ⊥)
      → IfSome (byte_for copies copy offset) (λ byte. slice_get known offset ≡ Some byte)
  -- it has each byte FF for the copy, also behind a lost byte: a marker may begin with it
  pub kept_markers : (offset : ℕ) → offset < length known → byte_for copies copy offset ≡ Some 0xFF → slice_get known offset ≡ Some 0xFF
  -- if it has fewer, the first that it has not is lost
  pub cut : length known < length copy.bytes → IsLost copies copy (length known)

-- each copy has what can stand for it, in order
abbrev pub AreKnownCopies : List Copy → List (List ℕ) → Type 0
AreKnownCopies copies files = AllZip (IsKnownCopy copies) copies files
