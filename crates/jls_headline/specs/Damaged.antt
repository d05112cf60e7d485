-- Damaged copies of a picture, and the lines that survive in them. Before each restart marker that is seen, a damaged copy has lost at most
-- seven of its scan in a row, with what stood between them (T.81 B.2.1). At the end of a scan it may have lost any number of them, and of
-- scans it may have lost any number. None of its pieces, damaged or not, gives lines that the picture doesn't have there.
use Rattle.std.specs.Prelude.{◌≡◌, ℕ, ◌<◌, List, ◌∷◌, length, map, take}
use Rattle.std.specs.List.{AllByRecursion, Contains, zip}
use Rattle.jls_partial.specs.Reading.{Reading, reading_of}
use Rattle.jls_marker.specs.Scan.{Scan, intervals}
use Rattle.jls_copy.specs.Numbers.{RiseByEightAtMost, mark_before}
use Rattle.jls_write.specs.Picture.{WholePicture, line_of}
use Rattle.jls_write.specs.WrittenFile.{interval_lines}
use Rattle.jls_copy_laws.specs.CopyScans.{ScanPiece, ScanWithData, HasScans}
use Rattle.jls_copy_laws.specs.Gives.{GivesLines, PieceGives}

-- These are the numbers of the pieces after the first: each is one to eight above the one before, and is that of an interval. The restart
-- markers are those before these intervals
pub record AreNumbers (d : ScanWithData) (numbers : List ℕ) : Type 0 where
  pub rise : RiseByEightAtMost (intervals d.scan) 0 numbers
  pub marks_are : d.marks ≡ map mark_before numbers

-- each piece with the number of its interval; the first has the number 0
abbrev pub numbered_pieces : ScanWithData → List ℕ → List (ℕ × ScanPiece)
numbered_pieces d numbers = zip (0 ∷ numbers) d.pieces

-- whatever lines the piece gives as the interval of its number, they are the interval's first lines in the picture; there can be none
abbrev pub HasPictureLines : WholePicture → Scan → ℕ × ScanPiece → Type 0
HasPictureLines pic s p = (lines : List (List ℕ)) → GivesLines s p.0 p.1 lines → lines ≡ take (length lines) (interval_lines pic s p.0)

-- restart markers number the pieces, and none gives other lines than the picture's
abbrev pub DamagedScan : WholePicture → ScanWithData → Type 0
DamagedScan pic d = (numbers : List ℕ) × AreNumbers d numbers × AllByRecursion (HasPictureLines pic d.scan) (numbered_pieces d numbers)

-- The copy has a frame of the picture's shape, and each of its scans is damaged so, under the parameters and the restart interval that its
-- own headers set
abbrev pub Damaged : WholePicture → List ℕ → Type 0
Damaged pic copy = (scans : List ScanWithData) × HasScans copy pic.shape scans × AllByRecursion (DamagedScan pic) scans

-- restart markers number the pieces, and some piece gives the reading as the interval of its number; the others may give anything
abbrev pub SurvivesInScan : ScanWithData → Reading → Type 0
SurvivesInScan d r = (numbers : List ℕ) × AreNumbers d numbers
    × (k : ℕ) × (piece : ScanPiece) × Contains (numbered_pieces d numbers) (k, piece) × PieceGives d.scan k piece r

-- a line of the picture, as a reading
abbrev pub picture_reading : WholePicture → ℕ → ℕ → Reading
picture_reading pic component line = reading_of component line (line_of pic component line)

-- the copy has a frame of the picture's shape, and the picture's line survives in some scan of it
abbrev pub Survives : WholePicture → List ℕ → ℕ → ℕ → Type 0
Survives pic copy component line = (scans : List ScanWithData) × HasScans copy pic.shape scans
    × (d : ScanWithData) × Contains scans d × SurvivesInScan d (picture_reading pic component line)

-- each line of the picture survives in some of these copies
abbrev pub EachLineSurvives : WholePicture → List (List ℕ) → Type 0
EachLineSurvives pic copies = (component line : ℕ) → component < length pic.shape.ids → line < pic.shape.height
    → (copy : List ℕ) × Contains copies copy × Survives pic copy component line
