-- One line by itself: what is known of it, however the other lines fare.
use Rattle.std.specs.Prelude.{◌≡◌, ℕ, ◌<◌, List, [], ◌∷◌, length, count_by, ◌⊎◌}
use Rattle.std.specs.List.{AllByRecursion, Contains}
use Rattle.jls_partial.specs.Reading.{reading_of}
use Rattle.jls_partial.specs.Partial.{PartialPicture, readings_at}
use Rattle.jls_partial.specs.Status.{status_of, IsSettled}
use Rattle.jls_partial.specs.declared.status.Status.TheVariants.{Settled}
use Rattle.jls_marker.specs.Scan.{Scan, HasRow}
use Rattle.jls_write.specs.Picture.{WholePicture, line_of, picture_of}
use Rattle.jls_write.specs.WholePictures.{IsPicture}
use Rattle.jls_report.specs.Report.{PictureReport, report_of}
use Rattle.jls_report.specs.Ranges.{speaks_of}
use Rattle.jls_copy_laws.specs.CopyScans.{ScanPiece, ScanWithData, HasScans}
use Rattle.jls_copy_laws.specs.Gives.{PieceGives, GivesReading}
use Rattle.jls_headline.specs.Damaged.{AreNumbers, numbered_pieces, picture_reading, Damaged, Survives, EachLineSurvives}
use Rattle.jls_headline.specs.Sources.{SourcedCopy, copies_of}
use Rattle.jls_headline.specs.Trimmed.{IsTrimmed}
use Rattle.jls_headline.specs.Collected.{CollectedFrom}

-- each reading that the copy gives of this line is the picture's; it can give none, and of other lines any
abbrev pub SaysNoOther : WholePicture → ℕ → ℕ → List ℕ → Type 0
SaysNoOther pic component line copy =
    (samples : List ℕ) → GivesReading copy (reading_of component line samples) → samples ≡ line_of pic component line

-- what a station that read these copies tells of one line of a picture
pub record TellsOfLine (pic : WholePicture) (station : PartialPicture) (copies : List (List ℕ)) (component line : ℕ) : Type 0 where
  -- some copy gives the picture's line, and no copy another: the line is settled, and is the picture's
  pub settled : AllByRecursion (SaysNoOther pic component line) copies
      → (copy : List ℕ) → Contains copies copy → GivesReading copy (picture_reading pic component line)
      → readings_at station component line ≡ line_of pic component line ∷ []
  -- no copy gives another than the picture's: the line is missing, or it is settled and is the picture's. So it is never disputed
  pub no_other : AllByRecursion (SaysNoOther pic component line) copies
      → (readings_at station component line ≡ []) ⊎ (readings_at station component line ≡ line_of pic component line ∷ [])
  -- the line survives in some copy, and the others may be anything: it is among the readings held. If the line is settled, it is that one
  pub survives : (copy : List ℕ) → Contains copies copy → Survives pic copy component line
      → Contains (readings_at station component line) (line_of pic component line)
      × (status_of (readings_at station component line) ≡ Settled → readings_at station component line ≡ line_of pic component line ∷ [])

-- stations tell this of each line
abbrev pub StationsTellOfLines : Type 0
StationsTellOfLines =
    (pic : WholePicture) (station : PartialPicture) (copies : List SourcedCopy) → CollectedFrom station copies
    → (component line : ℕ) → TellsOfLine pic station (copies_of copies) component line

-- So if each line of a picture survives in some copy, whatever else was read, the lines of the station are that picture or not all settled
abbrev pub NeverAnotherPicture : Type 0
NeverAnotherPicture =
    (pic : WholePicture) → IsPicture pic → (station : PartialPicture) (copies : List SourcedCopy) → CollectedFrom station copies
    → EachLineSurvives pic (copies_of copies) → IsSettled station → picture_of station ≡ pic

-- A line of the station of which no entry of its report speaks has one reading
abbrev pub UnnamedLinesHaveOneReading : Type 0
UnnamedLinesHaveOneReading =
    (station : PartialPicture) (report : PictureReport) → report ≡ report_of station
    → (component line : ℕ) → component < length station.shape.ids → line < station.shape.height
    → count_by (speaks_of component line) report.entries ≡ 0 → length (readings_at station component line) ≡ 1

-- if it also survives in some copy that was read for the station, that reading is the picture's line
abbrev pub UnnamedLinesAreThePicture : Type 0
UnnamedLinesAreThePicture =
    (pic : WholePicture) (station : PartialPicture) (copies : List SourcedCopy) → CollectedFrom station copies
    → (report : PictureReport) → report ≡ report_of station
    → (component line : ℕ) → component < length pic.shape.ids → line < pic.shape.height
    → count_by (speaks_of component line) report.entries ≡ 0
    → (copy : List ℕ) → Contains (copies_of copies) copy → Survives pic copy component line
    → readings_at station component line ≡ line_of pic component line ∷ []

-- Premises on the damage at one line -----------------------------------------------------------------------

-- whatever this piece gives of the line, as the interval of its number, is the picture's; it can give nothing of it
abbrev pub HasPictureLine : WholePicture → ℕ → ℕ → Scan → ℕ × ScanPiece → Type 0
HasPictureLine pic component line s p =
    (samples : List ℕ) → PieceGives s p.0 p.1 (reading_of component line samples) → samples ≡ line_of pic component line

-- restart markers number the pieces, and each is so
abbrev pub DamagedScanAt : WholePicture → ℕ → ℕ → ScanWithData → Type 0
DamagedScanAt pic component line d = (numbers : List ℕ) × AreNumbers d numbers
    × AllByRecursion (HasPictureLine pic component line d.scan) (numbered_pieces d numbers)

-- the copy has a frame of the picture's shape, and each of its scans is so
abbrev pub DamagedAt : WholePicture → ℕ → ℕ → List ℕ → Type 0
DamagedAt pic component line copy =
    (scans : List ScanWithData) × HasScans copy pic.shape scans × AllByRecursion (DamagedScanAt pic component line) scans

-- such a copy gives no other reading of the line
abbrev pub DamagedAtSaysNoOther : Type 0
DamagedAtSaysNoOther =
    (pic : WholePicture) (component line : ℕ) (copy : List ℕ) → DamagedAt pic component line copy → SaysNoOther pic component line copy

-- a damaged copy is such a copy at each line
abbrev pub DamagedIsDamagedAtEach : Type 0
DamagedIsDamagedAtEach = (pic : WholePicture) (copy : List ℕ) → Damaged pic copy → (component line : ℕ) → DamagedAt pic component line copy

-- restart markers number the pieces, and those whose interval has this row were only truncated or extended; the others may be anything
abbrev pub TrimmedScanAt : WholePicture → ℕ → ScanWithData → Type 0
TrimmedScanAt pic line d = (numbers : List ℕ) × AreNumbers d numbers
    × AllByRecursion (λ (p : ℕ × ScanPiece). HasRow d.scan p.0 line → IsTrimmed pic d.scan p.0 p.1.bytes) (numbered_pieces d numbers)

-- the copy has a frame of the picture's shape, and each of its scans is so
abbrev pub TrimmedAt : WholePicture → ℕ → List ℕ → Type 0
TrimmedAt pic line copy = (scans : List ScanWithData) × HasScans copy pic.shape scans × AllByRecursion (TrimmedScanAt pic line) scans

-- of such a copy nothing is assumed of what its pieces read as
abbrev pub TrimmedAtIsDamagedAt : Type 0
TrimmedAtIsDamagedAt =
    (pic : WholePicture) (component line : ℕ) (copy : List ℕ) → TrimmedAt pic line copy → DamagedAt pic component line copy
