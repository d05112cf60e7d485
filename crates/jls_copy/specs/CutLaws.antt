-- The laws of scan data, of which each is the contract of a function with an empty body.
use Rattle.std.specs.Prelude.{◌≡◌, ℕ, ◌<◌, ◌≤◌, List, ◌∷◌, ◌++◌, map}
use Rattle.jls_marker.specs.HeaderState.{HeaderState}
use Rattle.jls_marker.specs.Scan.{Scan}
use Rattle.jls_copy.specs.ScanData.{ClosedPiece, ScanCut, IsCut}
use Rattle.jls_copy.specs.Course.{scan, LastClosed, scan_data_bytes, IsUnit}
use Rattle.jls_copy.specs.Numbers.{IsNextNumber, next_number, Interval, BeyondLast, numbers_after, RiseByEightAtMost, mark_before}

-- every list of bytes that begins where scan data does is cut in one way, and in no other
abbrev pub OneCut : Type 0
OneCut = (bytes : List ℕ) → (c : ScanCut) × IsCut bytes c × ((d : ScanCut) → IsCut bytes d → d ≡ c)

-- the scan data of a unit, with the bytes after the unit, is divided into its pieces and marks, and in no other way
abbrev pub UnitsAreCut : Type 0
UnitsAreCut = (before after : HeaderState) (fill code : ℕ) (payload : List ℕ) (s : Scan)
    → (closed : List ClosedPiece) (last : List ℕ) (closing : LastClosed) (rest : List ℕ)
    → IsUnit before (scan fill code payload s closed last closing) after rest
    → (c : ScanCut) × IsCut (scan_data_bytes closed last closing ++ rest) c × (c.closed ≡ closed) × (c.last ≡ last)
    × ((d : ScanCut) → IsCut (scan_data_bytes closed last closing ++ rest) d → d ≡ c)

-- what `next_number` computes is the least number
abbrev pub NumbersAreLeast : Type 0
NumbersAreLeast = (last m : ℕ) → m < 8 → IsNextNumber last m (next_number last m)

-- let fewer than eight marks in a row be lost, and every mark seen be a true one. Then the marks give the pieces after them their true
-- numbers. This is of lists of marks
abbrev pub LostMarksAreBridged : Type 0
LostMarksAreBridged = (intervals last : ℕ) (numbers : List ℕ) → RiseByEightAtMost intervals last numbers
    → numbers_after intervals last (map mark_before numbers) ≡ map Interval numbers

-- a mark whose number is beyond the last interval leaves the numbers after it as they were without it
abbrev pub MarksBeyondChangeNothing : Type 0
MarksBeyondChangeNothing = (intervals last m : ℕ) (marks : List ℕ) → intervals ≤ next_number last m
    → numbers_after intervals last (m ∷ marks) ≡ BeyondLast (next_number last m) ∷ numbers_after intervals last marks
