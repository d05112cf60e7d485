-- Names as they are printed, by values that were looked up in the code charts of The Unicode Standard.
use Rattle.std.proofs.Common.{◌≡◌, [], ◌∷◌, true, false, refl}
use Rattle.std.specs.Prelude.{codes}
use Rattle.std.specs.List.{list_all, list_any}
use Rattle.std.specs.Char.{encode_utf8}
use Rattle.std.specs.Str.{chars}
use Rattle.jls_io.specs.Names.{is_control, shown_name}

-- names without control characters stand as they are: ASCII, LATIN SMALL LETTER U WITH DIAERESIS, and a character past U+FFFF
plain : shown_name (codes "a copy.jls") ≡ codes "a copy.jls"
unfolding chars encode_utf8
plain = refl

u_diaeresis : shown_name (0xC3 ∷ 0xBC ∷ []) ≡ 0xC3 ∷ 0xBC ∷ []
unfolding chars encode_utf8
u_diaeresis = refl

camera : shown_name (0xF0 ∷ 0x9F ∷ 0x93 ∷ 0xB7 ∷ []) ≡ 0xF0 ∷ 0x9F ∷ 0x93 ∷ 0xB7 ∷ []
unfolding chars encode_utf8
camera = refl

-- ESC [ 2 J
escape : shown_name (0x1B ∷ codes "[2J") ≡ codes "\\u{1b}[2J"
unfolding chars encode_utf8
escape = refl

-- LINE FEED and NULL
line_feed : shown_name (codes "a\nb") ≡ codes "a\\u{a}b"
unfolding chars encode_utf8
line_feed = refl

null : shown_name (0 ∷ []) ≡ codes "\\u{0}"
unfolding chars encode_utf8
null = refl

-- a backslash is doubled, so no name reads as another one's code
backslash : shown_name (codes "\\u{1b}") ≡ codes "\\\\u{1b}"
unfolding chars encode_utf8
backslash = refl

-- DELETE, and the C1 character U+009B, CONTROL SEQUENCE INTRODUCER
delete : shown_name (0x7F ∷ []) ≡ codes "\\u{7f}"
unfolding chars encode_utf8
delete = refl

introducer : shown_name (0xC2 ∷ 0x9B ∷ []) ≡ codes "\\u{9b}"
unfolding chars encode_utf8
introducer = refl

-- RIGHT-TO-LEFT OVERRIDE, U+202E, between two letters
override : shown_name (97 ∷ 0xE2 ∷ 0x80 ∷ 0xAE ∷ 98 ∷ []) ≡ codes "a\\u{202e}b"
unfolding chars encode_utf8
override = refl

-- both ends of each range
ends : list_all is_control (0 ∷ 0x1F ∷ 0x7F ∷ 0x9F ∷ 0x200E ∷ 0x200F ∷ 0x202A ∷ 0x202E ∷ 0x2066 ∷ 0x2069 ∷ []) ≡ true
ends = refl

-- the characters beside them: SPACE, TILDE, NO-BREAK SPACE, ZERO WIDTH JOINER, HYPHEN, PARAGRAPH SEPARATOR, NARROW NO-BREAK SPACE, the
-- unassigned U+2065, and INHIBIT SYMMETRIC SWAPPING
beside : list_any is_control (0x20 ∷ 0x7E ∷ 0xA0 ∷ 0x200D ∷ 0x2010 ∷ 0x2029 ∷ 0x202F ∷ 0x2065 ∷ 0x206A ∷ []) ≡ false
beside = refl
