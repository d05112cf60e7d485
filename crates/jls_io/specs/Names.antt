-- Names as they stand in a line, by the code points of The Unicode Standard.
use Rattle.std.specs.Prelude.{◌==◌, ◌&&◌, ◌||◌, ℕ, Bool, List, [], ◌∷◌, nat_le, if◌then◌else◌}
use Rattle.std.specs.List.{flat_map}
use Rattle.std.specs.Char.{encode_utf8}
use Rattle.std.specs.Char.Escape.{escape_unicode}
use Rattle.std.specs.Str.{chars}

-- whether a code is in a range
abbrev pub is_from_to : ℕ → ℕ → ℕ → Bool
is_from_to first last c = nat_le first c && nat_le c last

-- C0; DEL and C1; and the marks, embeddings, overrides and isolates of the bidirectional algorithm
abbrev pub is_control : ℕ → Bool
is_control c =
    is_from_to 0 0x1F c || (is_from_to 0x7F 0x9F c
    || (is_from_to 0x200E 0x200F c || (is_from_to 0x202A 0x202E c || is_from_to 0x2066 0x2069 c)))

-- the characters for a character of a name: a control character by its code, as `\u{1b}`; a backslash twice; every other as it is
abbrev pub shown : ℕ → List ℕ
shown c = if is_control c then escape_unicode c else if c == 0x5C then 0x5C ∷ 0x5C ∷ [] else c ∷ []

-- the shown characters in UTF-8
abbrev pub shown_bytes : ℕ → List ℕ
shown_bytes c = flat_map encode_utf8 (shown c)

-- a name, character by character
abbrev pub shown_name : List ℕ → List ℕ
shown_name name = flat_map shown_bytes (chars name)
