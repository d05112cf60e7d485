-- Trimmed pieces: what is left where nothing but the prefix of an interval's bytes came, or bytes came after them.
use Rattle.std.specs.Prelude.{◌≡◌, ℕ, Bool, List, ◌∷◌, ◌++◌, length}
use Rattle.std.specs.List.{AllByRecursion}
use Rattle.jls_bits.specs.Bits.{bits_read}
use Rattle.jls_interval.specs.Code.{code}
use Rattle.jls_interval.specs.Reads.{Reads}
use Rattle.jls_marker.specs.Scan.{Scan}
use Rattle.jls_write.specs.Picture.{WholePicture}
use Rattle.jls_write.specs.WrittenFile.{interval_lines}
use Rattle.jls_copy_laws.specs.CopyScans.{ScanPiece, ScanWithData, HasScans}
use Rattle.jls_copy_laws.specs.Gives.{line_interval}
use Rattle.jls_headline.specs.Damaged.{AreNumbers, numbered_pieces}

-- the whole of the bytes, so many of them from the start on, or all of them and at least one more
pub data Trimmed : List ℕ → List ℕ → Type 0 where
  whole : (bytes : List ℕ) → Trimmed bytes bytes
  prefix : (kept lost : List ℕ) → Trimmed (kept ++ lost) kept
  longer : (bytes : List ℕ) (first : ℕ) (more : List ℕ) → Trimmed bytes (bytes ++ first ∷ more)

-- a piece trimmed from one that reads as the picture's lines of interval k
pub record IsTrimmed (pic : WholePicture) (s : Scan) (k : ℕ) (piece : List ℕ) : Type 0 where
  pub bytes : List ℕ
  pub reads : Reads (line_interval s k) bytes (interval_lines pic s k)
  pub trimmed : Trimmed bytes piece

-- the bytes lack a bit of the code of the picture's lines of interval k, and have no bit that isn't of it
pub record LacksABit (pic : WholePicture) (s : Scan) (k : ℕ) (piece : List ℕ) : Type 0 where
  pub missing : Bool
  pub more_missing : List Bool
  pub code_is : bits_read piece ++ missing ∷ more_missing ≡ code s.params s.width (length s.components) (interval_lines pic s k)

-- the pieces are those of some intervals, each trimmed or whole, and nothing else happened to the scan
abbrev pub TrimmedScan : WholePicture → ScanWithData → Type 0
TrimmedScan pic d = (numbers : List ℕ) × AreNumbers d numbers
    × AllByRecursion (λ (p : ℕ × ScanPiece). IsTrimmed pic d.scan p.0 p.1.bytes) (numbered_pieces d numbers)

-- a copy of which only intervals were lost and pieces trimmed; its other marker segments may say anything
abbrev pub TrimmedCopy : WholePicture → List ℕ → Type 0
TrimmedCopy pic copy = (scans : List ScanWithData) × HasScans copy pic.shape scans × AllByRecursion (TrimmedScan pic) scans
