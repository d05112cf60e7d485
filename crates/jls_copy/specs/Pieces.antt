-- The pieces of a copy's scan data, each under its number, and what each gives.
use Rattle.std.specs.Prelude.{ℕ, ◌+◌, ◌==◌, List, [], ◌∷◌, ◌++◌, length, get_or, if◌then◌else◌}
use Rattle.jls_piece.specs.Reads.{Reads, IsLong, IsBroken}
use Rattle.jls_partial.specs.Reading.{Reading, reading_of}
use Rattle.jls_marker.specs.Scan.{Scan, intervals, first_row}
use Rattle.jls_copy.specs.ScanData.{ClosedPiece, closed_bytes}
use Rattle.jls_copy.specs.Numbers.{PieceNumber, Interval, BeyondLast, number_after, given_last}
use Rattle.jls_copy.specs.Course.{CopyUnit, segment, scan, segment_unit_bytes, unit_bytes, Course}
use Rattle.jls_copy.specs.declared.piece.PieceKind.{PieceKind}
use Rattle.jls_copy.specs.declared.piece.PieceKind.TheVariants as kind
use Rattle.jls_copy.specs.declared.piece.PieceRecord.{PieceRecord}
use Rattle.jls_copy.specs.IntervalOf.{interval_of}

-- a piece of a copy: its scan, counted from 0, with components, parameters and rows; its number; the offset of its first byte; and its
-- bytes
pub record FoundPiece : Type 0 where
  pub scan : ℕ
  pub plan : Scan
  pub number : PieceNumber
  pub offset : ℕ
  pub bytes : List ℕ

-- Where they stand ------------------------------------------------------------------------------------------------

-- a piece that begins here, and has no byte yet
abbrev pub piece_begun : ℕ → Scan → PieceNumber → ℕ → FoundPiece
piece_begun index plan number offset = record { scan = index; plan = plan; number = number; offset = offset; bytes = [] }

-- the pieces of scan data from this one on, which has no byte yet. `last` was the last number given
abbrev pub pieces_from : FoundPiece → ℕ → List ClosedPiece → List ℕ → List FoundPiece
pieces_from piece last [] bytes = record piece { bytes = bytes } ∷ []
pieces_from piece last (c ∷ closed) bytes =
    let next = number_after (intervals piece.plan) last c.mark in let following = piece.offset + length (closed_bytes c) in
    record piece { bytes = c.piece }
    ∷ pieces_from (piece_begun piece.scan piece.plan next following) (given_last last next) closed bytes

-- the pieces of a unit at this offset, after so many scans
abbrev pub unit_pieces : ℕ → ℕ → CopyUnit → List FoundPiece
unit_pieces index at (segment fill code payload) = []
unit_pieces index at (scan fill code payload plan closed last closing) =
    pieces_from (piece_begun index plan (Interval 0) (at + length (segment_unit_bytes fill code payload))) 0 closed last

-- how many scans a unit has: none or one
abbrev pub scans_in : CopyUnit → ℕ
scans_in (segment fill code payload) = 0
scans_in (scan fill code payload plan closed last closing) = 1

-- the pieces of these units, of which the first is at this offset, after so many scans
abbrev pub pieces_in : ℕ → ℕ → List CopyUnit → List FoundPiece
pieces_in index at [] = []
pieces_in index at (u ∷ us) = unit_pieces index at u ++ pieces_in (index + scans_in u) (at + length (unit_bytes u)) us

-- all pieces of a course, in order
abbrev pub pieces : Course → List FoundPiece
pieces c = pieces_in 0 c.begin c.units

-- What they give --------------------------------------------------------------------------------------------------

-- what a piece gives: the lines that it reads as, or why it reads as none
pub data PieceOutcome : Type 0 where
  Lines : List (List ℕ) → PieceOutcome
  Fault : PieceKind → PieceOutcome

-- the bytes, as the piece of this number of a scan, have this outcome. A piece beyond the last interval isn't decoded
abbrev pub IsOutcomeAt : Scan → PieceNumber → List ℕ → PieceOutcome → Type 0
IsOutcomeAt s (Interval k) bytes (Lines lines) = Reads (interval_of s k) bytes lines
IsOutcomeAt s (Interval k) bytes (Fault kind.Long) = IsLong (interval_of s k) bytes
IsOutcomeAt s (Interval k) bytes (Fault kind.Broken) = IsBroken (interval_of s k) bytes
IsOutcomeAt s (BeyondLast k) bytes (Fault kind.Beyond) = Unit {0}
IsOutcomeAt _ _ _ _ = ⊥

-- a piece has this outcome
abbrev pub IsOutcome : FoundPiece → PieceOutcome → Type 0
IsOutcome p o = IsOutcomeAt p.plan p.number p.bytes o

-- lines as readings: row by row, and in a row by component, from this row on and from this place among the scan's components on
abbrev pub placed : List ℕ → ℕ → ℕ → List (List ℕ) → List Reading
placed components row place [] = []
placed components row place (line ∷ lines) =
    reading_of (get_or components place 0) row line
    ∷ placed components (if place + 1 == length components then row + 1 else row)
    (if place + 1 == length components then 0 else place + 1) lines

-- the readings that an outcome gives
abbrev pub outcome_readings : Scan → PieceNumber → PieceOutcome → List Reading
outcome_readings s (Interval k) (Lines lines) = placed s.components (first_row s k) 0 lines
outcome_readings s (Interval k) (Fault _) = []
outcome_readings s (BeyondLast k) o = []

-- the readings that a piece gives by its outcome: none if it does not read
abbrev pub readings_of : FoundPiece → PieceOutcome → List Reading
readings_of p o = outcome_readings p.plan p.number o

-- the number itself, beyond the last interval or not
abbrev pub value_of : PieceNumber → ℕ
value_of (Interval k) = k
value_of (BeyondLast k) = k

-- the record of a piece that gives no lines
abbrev pub records_of : FoundPiece → PieceOutcome → List PieceRecord
records_of p (Lines lines) = []
records_of p (Fault f) = record { scan = p.scan; interval = value_of p.number; offset = p.offset; kind = f } ∷ []

-- Of many pieces --------------------------------------------------------------------------------------------------

-- these are the outcomes of the pieces, one of each
abbrev pub AreOutcomes : List FoundPiece → List PieceOutcome → Type 0
AreOutcomes [] [] = Unit {0}
AreOutcomes (p ∷ ps) (o ∷ os) = IsOutcome p o × AreOutcomes ps os
AreOutcomes _ _ = ⊥

-- the readings that pieces give by their outcomes
abbrev pub readings : List FoundPiece → List PieceOutcome → List Reading
readings (p ∷ ps) (o ∷ os) = readings_of p o ++ readings ps os
readings _ _ = []

-- the records of the pieces that do not read, in order
abbrev pub records : List FoundPiece → List PieceOutcome → List PieceRecord
records (p ∷ ps) (o ∷ os) = records_of p o ++ records ps os
records _ _ = []
