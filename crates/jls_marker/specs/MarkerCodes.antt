-- The second bytes of the markers that a segment follows (T.81, table B.1; T.87, C.1.1).
use Rattle.std.specs.Prelude.{ℕ, Bool, ◌&&◌, ◌||◌, ◌==◌, nat_le}

-- start of a frame that is coded as JPEG-LS (T.81 table B.1; T.87 C.1.1)
abbrev pub sof55 : ℕ
sof55 = 0xF7

-- start of a scan (T.81 table B.1; T.87 C.1.1)
abbrev pub sos : ℕ
sos = 0xDA

-- preset parameters of JPEG-LS (T.81 table B.1; T.87 C.1.1)
abbrev pub lse : ℕ
lse = 0xF8

-- define restart interval (T.81 table B.1; T.87 C.1.1)
abbrev pub dri : ℕ
dri = 0xDD

-- a comment, or one of the sixteen that applications use (T.81 table B.1; T.87 C.1.1)
abbrev pub is_skipped : ℕ → Bool
is_skipped code = (code == 0xFE) || (nat_le 0xE0 code && nat_le code 0xEF)

-- the codes that a segment of this project follows (T.81 table B.1; T.87 C.1.1)
unfoldable pub has_segment : ℕ → Bool
has_segment code = (code == sof55) || ((code == sos) || ((code == lse) || ((code == dri) || is_skipped code)))
