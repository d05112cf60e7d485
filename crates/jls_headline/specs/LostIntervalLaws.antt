-- The laws of copies that have lost intervals: their numbers come back, and what they give is the picture's.
use Rattle.std.specs.Prelude.{◌≡◌, ℕ, List, [], map, ◌↔◌}
use Rattle.std.specs.List.{AllByRecursion, Contains}
use Rattle.jls_bits.specs.Bits.{bits_read}
use Rattle.jls_interval.specs.Heads.{IsHeadOfPiece, AreWholeLines}
use Rattle.jls_interval.specs.Reads.{Reads}
use Rattle.jls_partial.specs.Reading.{Reading}
use Rattle.jls_marker.specs.Scan.{Scan, IsScan, intervals}
use Rattle.jls_copy.specs.Numbers.{Interval, numbers_after}
use Rattle.jls_write.specs.Picture.{WholePicture}
use Rattle.jls_write.specs.WrittenFile.{interval_lines}
use Rattle.jls_file_laws.specs.Covering.{IsLineOf}
use Rattle.jls_copy_laws.specs.CopyScans.{ScanPiece, ScanWithData, HasScans}
use Rattle.jls_copy_laws.specs.Gives.{line_interval, PieceGives, ScanGives, GivesReading}
use Rattle.jls_headline.specs.Damaged.{AreNumbers, numbered_pieces, HasPictureLines, DamagedScan, Damaged, SurvivesInScan, picture_reading}
use Rattle.jls_headline.specs.Damaged.{Survives}
use Rattle.jls_headline.specs.Trimmed.{IsTrimmed, LacksABit, TrimmedCopy}

-- Numbers ------------------------------------------------------------------------------------------------------

-- the numbers that the marks of some intervals give are those of these intervals. No piece is beyond the last one
abbrev pub NumbersComeBack : Type 0
NumbersComeBack = (d : ScanWithData) (numbers : List ℕ) → AreNumbers d numbers
    → numbers_after (intervals d.scan) 0 d.marks ≡ map Interval numbers

-- a scan whose marks are those of some intervals gives what its pieces have as these intervals
abbrev pub NumberedPiecesGive : Type 0
NumberedPiecesGive = (d : ScanWithData) (numbers : List ℕ) → AreNumbers d numbers → (r : Reading)
    → ScanGives d r ↔ ((k : ℕ) × (piece : ScanPiece) × Contains (numbered_pieces d numbers) (k, piece) × PieceGives d.scan k piece r)

-- Readings -----------------------------------------------------------------------------------------------------

-- a damaged copy gives exactly what survives in its scans
abbrev pub DamagedCopiesGiveExactly : Type 0
DamagedCopiesGiveExactly =
    (pic : WholePicture) (copy : List ℕ) (scans : List ScanWithData) → HasScans copy pic.shape scans
    → AllByRecursion (DamagedScan pic) scans
    → (r : Reading) → GivesReading copy r ↔ ((d : ScanWithData) × Contains scans d × SurvivesInScan d r)

-- so whatever a damaged copy gives is a line of the picture
abbrev pub DamagedCopiesGiveNoOther : Type 0
DamagedCopiesGiveNoOther =
    (pic : WholePicture) (copy : List ℕ) → Damaged pic copy → (r : Reading) → GivesReading copy r → IsLineOf pic r

-- a line that survives in a copy is given by it, damaged or not
abbrev pub SurvivingLinesAreGiven : Type 0
SurvivingLinesAreGiven =
    (pic : WholePicture) (copy : List ℕ) (component line : ℕ)
    → Survives pic copy component line → GivesReading copy (picture_reading pic component line)

-- Trimmed pieces -----------------------------------------------------------------------------------------------

-- a trimmed piece reads as the picture's lines or as none
abbrev pub TrimmedPiecesAreHarmless : Type 0
TrimmedPiecesAreHarmless =
    (pic : WholePicture) (s : Scan) (k : ℕ) (piece : List ℕ) → IsScan s → IsTrimmed pic s k piece
    → (lines : List (List ℕ)) → Reads (line_interval s k) piece lines → lines ≡ interval_lines pic s k

-- if it lacks a bit of the code, its head is those of the picture's lines that are complete. Else its head is empty
abbrev pub TrimmedPiecesHaveHeads : Type 0
TrimmedPiecesHaveHeads =
    (pic : WholePicture) (s : Scan) (k : ℕ) (piece : List ℕ) → IsScan s → IsTrimmed pic s k piece
    → (head : List (List ℕ)) → IsHeadOfPiece (line_interval s k) piece head
    → (LacksABit pic s k piece → AreWholeLines (line_interval s k) (bits_read piece) (interval_lines pic s k) head)
    × ((LacksABit pic s k piece → ⊥) → head ≡ [])

-- a trimmed piece has no lines but the picture's first ones of its interval
abbrev pub TrimmedPiecesHavePictureLines : Type 0
TrimmedPiecesHavePictureLines =
    (pic : WholePicture) (s : Scan) (k : ℕ) (piece : ScanPiece) → IsScan s → IsTrimmed pic s k piece.bytes
    → HasPictureLines pic s (k, piece)

-- so a copy that has only lost intervals and been trimmed is a damaged copy
abbrev pub TrimmedCopiesAreDamaged : Type 0
TrimmedCopiesAreDamaged = (pic : WholePicture) (copy : List ℕ) → TrimmedCopy pic copy → Damaged pic copy
