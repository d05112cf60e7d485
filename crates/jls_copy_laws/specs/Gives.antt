-- The readings that a copy gives: the lines of its pieces, each in the restart interval that its number says (T.81 B.2.1; T.87 A.1, C.2.5).
-- The components of a scan take turns line by line (T.87 B.2).
use Rattle.std.specs.Prelude.{◌≡◌, ℕ, ◌*◌, true, List, ◌∷◌, length, ◌⊎◌}
use Rattle.std.specs.List.{Contains, zip}
use Rattle.jls_values.specs.Shape.{PictureShape}
use Rattle.jls_partial.specs.Reading.{Reading}
use Rattle.jls_interval.specs.Heads.{IsHeadOfPiece}
use Rattle.jls_interval.specs.Lines.{IntervalShape}
use Rattle.jls_interval.specs.Reads.{Reads}
use Rattle.jls_marker.specs.Scan.{Scan, intervals, first_row, row_count}
use Rattle.jls_copy.specs.Numbers.{Interval, numbers_after}
use Rattle.jls_copy.specs.Pieces.{placed}
use Rattle.jls_copy_laws.specs.CopyScans.{ScanPiece, ScanWithData, HasScans}

-- Interval k of a scan by line: in each of its rows a line of each component. A copy has no other scans: under the strict profile a scan
-- by sample is a fault (`StrictPiecesAreByLine` of jls_copy)
abbrev pub line_interval : Scan → ℕ → IntervalShape
line_interval s k =
    let components = length s.components in
    record { params = s.params; width = s.width; components = components; line_count = row_count s k * components }

-- As interval k the piece gives these lines: all lines of the interval, if it reads as them. If the input's end ends the piece, it gives
-- its head too, which is this project's choice (T.87 A.1)
abbrev pub GivesLines : Scan → ℕ → ScanPiece → List (List ℕ) → Type 0
GivesLines s k piece lines =
    Reads (line_interval s k) piece.bytes lines ⊎ ((piece.ended_by_input ≡ true) × IsHeadOfPiece (line_interval s k) piece.bytes lines)

-- as interval k the piece gives lines of which one is this reading, at its component and row
abbrev pub PieceGives : Scan → ℕ → ScanPiece → Reading → Type 0
PieceGives s k piece r = (lines : List (List ℕ)) × GivesLines s k piece lines × Contains (placed s.components (first_row s k) 0 lines) r

-- Some piece of the scan gives the reading, as the interval of its number. The first piece has the number 0, and restart markers number the
-- others. A piece beyond the last interval gives nothing
abbrev pub ScanGives : ScanWithData → Reading → Type 0
ScanGives d r = (k : ℕ) × (piece : ScanPiece)
    × Contains (zip (Interval 0 ∷ numbers_after (intervals d.scan) 0 d.marks) d.pieces) (Interval k, piece) × PieceGives d.scan k piece r

-- one of the copy's scans gives the reading
abbrev pub GivesReading : List ℕ → Reading → Type 0
GivesReading copy r =
    (shape : PictureShape) × (scans : List ScanWithData) × HasScans copy shape scans × (d : ScanWithData) × Contains scans d × ScanGives d r
