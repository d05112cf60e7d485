-- The piece of scan data that the input's end closes, and the lines that stand whole in it: its head. That these lines count as
-- readings is this project's choice.
use Rattle.std.specs.Prelude.{◌≡◌, ℕ, Bool, true, false, List, [], ◌∷◌, if◌then◌else◌}
use Rattle.jls_piece.specs.Heads.{IsHeadOfPiece}
use Rattle.jls_partial.specs.Reading.{Reading}
use Rattle.jls_marker.specs.Scan.{Scan}
use Rattle.jls_copy.specs.Numbers.{PieceNumber, Interval, BeyondLast}
use Rattle.jls_copy.specs.Course.{CopyUnit, segment, scan, by_input, by_marker, Course}
use Rattle.jls_copy.specs.Pieces.{FoundPiece, Lines, readings_of, pieces}
use Rattle.jls_copy.specs.IntervalOf.{interval_of}

-- whether the input's end closes the last piece of a unit
abbrev pub is_cut : CopyUnit → Bool
is_cut (segment fill code payload) = false
is_cut (scan fill code payload plan closed last (by_input count)) = true
is_cut (scan fill code payload plan closed last by_marker) = false

-- whether the input's end closes the last piece of the last unit
abbrev pub closed_by_input : List CopyUnit → Bool
closed_by_input [] = false
closed_by_input (u ∷ []) = is_cut u
closed_by_input (u ∷ v ∷ us) = closed_by_input (v ∷ us)

-- the last of some pieces, or none
abbrev pub last_piece : List FoundPiece → List FoundPiece
last_piece [] = []
last_piece (p ∷ []) = p ∷ []
last_piece (p ∷ q ∷ ps) = last_piece (q ∷ ps)

-- the piece of a course that the input's end closes, or none
abbrev pub cut_pieces : Course → List FoundPiece
cut_pieces c = if closed_by_input c.units then last_piece (pieces c) else []

-- the bytes, as the piece of this number of a scan, have this head. A piece beyond the last interval isn't decoded
abbrev pub IsHeadAt : Scan → PieceNumber → List ℕ → List (List ℕ) → Type 0
IsHeadAt s (Interval k) bytes head = IsHeadOfPiece (interval_of s k) bytes head
IsHeadAt s (BeyondLast k) bytes head = head ≡ []

-- the head of the piece that the input's end closes, of which there is one at most
abbrev pub IsHeadOfCut : List FoundPiece → List (List ℕ) → Type 0
IsHeadOfCut [] head = head ≡ []
IsHeadOfCut (p ∷ ps) head = IsHeadAt p.plan p.number p.bytes head

-- the lines of a head as readings
abbrev pub head_readings : List FoundPiece → List (List ℕ) → List Reading
head_readings [] head = []
head_readings (p ∷ ps) head = readings_of p (Lines head)
