-- What functions inside this crate promise one another.
use Rattle.std.specs.Prelude.{◌≡◌, ℕ, ◌-◌, ◌<◌, ◌≤◌, Bool, true, false, ◌==◌, List, length, map, slice_get, get_or, Option, None}
use Rattle.std.specs.Prelude.{if◌then◌else◌}
use Rattle.std.specs.Option.{option_or}
use Rattle.jls_bad.specs.Known.{first_there, known_byte}
use Rattle.jls_bad.specs.Copies.{copies_of}
use Rattle.jls_bad.specs.declared.known.Listed.{Listed}
use Rattle.jls_bad.specs.declared.filling.Marked.{Marked}

-- the byte that a copy is known to have by its marks
abbrev pub marked_byte : Marked → ℕ → Option ℕ
marked_byte copy offset = if get_or copy.is_bad.items offset false then None else slice_get copy.bytes.now offset

-- the byte that it is known to have by its marks, if it has so many bytes
abbrev pub byte_if_as_long : ℕ → Marked → ℕ → Option ℕ
byte_if_as_long count copy offset = if length copy.bytes.now == count then marked_byte copy offset else None

-- the first such byte
abbrev pub first_as_long : List Marked → ℕ → ℕ → Option ℕ
first_as_long copies count offset = first_there (map (λ copy. byte_if_as_long count copy offset) copies)

-- the byte for a copy by the marks of all
abbrev pub marked_byte_for : List Marked → Marked → ℕ → Option ℕ
marked_byte_for copies copy offset = option_or (marked_byte copy offset) (first_as_long copies (length copy.bytes.now) offset)

-- copies with marks have the bytes of the copies, and say what is known of them
pub record AreMarked (listed : List Listed) (marked : List Marked) : Type 0 where
  pub bytes : map (λ copy. copy.bytes.now) marked ≡ map (λ copy. copy.bytes.now) listed
  pub marks : (offset : ℕ) → map (λ copy. marked_byte copy offset) marked ≡ map (λ copy. known_byte copy offset) (copies_of listed)

-- of so many bytes, each is the one for the copy, or is marked as lost if none is
pub record IsFilled (byte_at : ℕ → Option ℕ) (count : ℕ) (bytes : List ℕ) (marks : List Bool) : Type 0 where
  pub size : length bytes ≡ count
  pub lost : (offset : ℕ) → offset < count → get_or marks offset false ≡ true → byte_at offset ≡ None
  pub there : (offset : ℕ) → offset < count → get_or marks offset false ≡ false → byte_at offset ≡ slice_get bytes offset

-- bytes are changed and cut at most where they are lost, or changed behind lost ones
pub record IsChosen (bytes : List ℕ) (marks : List Bool) (known : List ℕ) : Type 0 where
  pub size : length known ≤ length bytes
  pub kept : (offset : ℕ) → offset < length known → get_or marks offset false ≡ false
      → (0 < offset → get_or marks (offset - 1) false ≡ false) → get_or known offset 0 ≡ get_or bytes offset 0
  pub kept_markers : (offset : ℕ) → offset < length known → get_or marks offset false ≡ false → get_or bytes offset 0 ≡ 0xFF
      → get_or known offset 0 ≡ 0xFF
  pub cut : length known < length bytes → get_or marks (length known) false ≡ true
