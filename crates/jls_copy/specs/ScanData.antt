-- Scan data: how restart markers cut it into pieces, and where it ends (T.81 B.1.1.2, B.1.1.5 and B.2.1, T.87 C.1). Bytes 0xFF before a
-- marker are fill by T.81 B.1.1.2. Which codes end scan data, and that bytes 0xFF at the input's end belong to no piece, is this
-- project's choice.
use Rattle.std.specs.Prelude.{◌≡◌, ℕ, ◌+◌, ◌<◌, ◌≤◌, ◌≢◌, Bool, true, false, ◌&&◌, ◌||◌, ◌==◌, nat_le, List, [], ◌∷◌, ◌++◌, length}
use Rattle.std.specs.Prelude.{replicate, slice_index}
use Rattle.std.specs.List.{flat_map, AllByRecursion}

-- whether the code is one of RST0 to RST7
abbrev pub is_restart_code : ℕ → Bool
is_restart_code code = nat_le 0xD0 code && nat_le code 0xD7

-- whether the code is that of EOI, SOS, DRI, LSE, COM or one of APP0 to APP15: such a marker ends scan data (T.81 B.1.1.2)
abbrev pub ends_scan_data : ℕ → Bool
ends_scan_data code =
    (code == 0xD9) || (code == 0xDA) || (code == 0xDD) || (code == 0xF8) || (code == 0xFE) || (nat_le 0xE0 code && nat_le code 0xEF)

-- whether a piece ends where this code follows a byte 0xFF (T.81 B.1.1.2)
abbrev pub closes_piece : ℕ → Bool
closes_piece code = is_restart_code code || ends_scan_data code

-- bytes that can come between two marks. No byte 0xFF in them is followed by a code that ends a piece, and the last byte isn't 0xFF (T.81
-- B.1.1.2)
abbrev pub IsPiece : List ℕ → Type 0
IsPiece [] = Unit {0}
IsPiece (b ∷ []) = b ≢ 0xFF
IsPiece (b ∷ c ∷ more) = (b ≡ 0xFF → closes_piece c ≡ false) × IsPiece (c ∷ more)

-- so many fill bytes
abbrev pub fill_bytes : ℕ → List ℕ
fill_bytes count = replicate count 0xFF

-- a piece and the mark that closes it: so many fill bytes, 0xFF, and the code of RSTm
pub record ClosedPiece : Type 0 where
  pub piece : List ℕ
  pub fill : ℕ
  pub mark : ℕ

-- where scan data ends. With the input, after so many bytes 0xFF. Or at a marker after so many fill bytes, with all that follows the marker
pub data ScanEnd : Type 0 where
  at_input : ℕ → ScanEnd
  at_marker : ℕ → ℕ → List ℕ → ScanEnd

-- How scan data, and what follows it, is cut: piece, mark, piece, mark, and so on, a last piece, and the end. A unit of a course holds the
-- same pieces without this record (`UnitsAreCut` of `CutLaws`) (T.81 B.1.1.2)
pub record ScanCut : Type 0 where
  pub closed : List ClosedPiece
  pub last : List ℕ
  pub end : ScanEnd

-- the bytes of a piece with the mark that closes it
abbrev pub closed_bytes : ClosedPiece → List ℕ
closed_bytes c = c.piece ++ (fill_bytes c.fill ++ (0xFF ∷ (0xD0 + c.mark) ∷ []))

-- the bytes after the last piece, to the end of the input
abbrev pub end_bytes : ScanEnd → List ℕ
end_bytes (at_input count) = fill_bytes count
end_bytes (at_marker fill code following) = fill_bytes fill ++ (0xFF ∷ code ∷ following)

-- the bytes that are cut so
abbrev pub cut_bytes : ScanCut → List ℕ
cut_bytes c = flat_map closed_bytes c.closed ++ (c.last ++ end_bytes c.end)

-- the piece is one, and the mark is that of one of RST0 to RST7
abbrev pub IsClosedPiece : ClosedPiece → Type 0
IsClosedPiece c = IsPiece c.piece × (c.mark < 8)

-- if scan data ends at a marker, its code is one that ends scan data
abbrev pub IsScanEnd : ScanEnd → Type 0
IsScanEnd (at_input count) = Unit {0}
IsScanEnd (at_marker fill code following) = ends_scan_data code ≡ true

-- the bytes, which begin where scan data does, are cut so (T.81 B.1.1.2)
pub record IsCut (bytes : List ℕ) (c : ScanCut) : Type 0 where
  pub whole : bytes ≡ cut_bytes c
  pub each : AllByRecursion IsClosedPiece c.closed
  pub last : IsPiece c.last
  pub end : IsScanEnd c.end

-- a byte 0xFF at this place, and a byte of 0x80 or more after it, as never in data bits. A mark or a marker that ends scan data has such a
-- place, but not each such place cuts scan data (T.87 A.1)
pub record IsCutPlace (bytes : List ℕ) (place : ℕ) : Type 0 where
  pub within : place + 1 < length bytes
  pub is_ff : slice_index bytes place ≡ 0xFF
  pub is_code : 0x80 ≤ slice_index bytes (place + 1)
