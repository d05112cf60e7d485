-- The lines of a written file, as a reader of copies places them: they are the picture's lines, each component and line once.
use Rattle.std.specs.Prelude.{◌≡◌, ℕ, ◌+◌, ◌<◌, ◌≤◌, ◌&&◌, ◌==◌, if◌then◌else◌, List, [], ◌∷◌, map, length, ◌↔◌}
use Rattle.std.specs.List.{flat_map, AllByRecursion, Contains, range_with_len}
use Rattle.jls_partial.specs.Reading.{Reading, reading_of}
use Rattle.jls_marker.specs.Scan.{Scan, intervals, first_row}
use Rattle.jls_write.specs.Picture.{WholePicture, line_of}
use Rattle.jls_write.specs.Options.{WriteOptions}
use Rattle.jls_copy.specs.Pieces.{placed}
use Rattle.jls_write.specs.WrittenFile.{interval_lines, components_of_scans, scan_of}

-- a row of a scan: a line of each of its components, at its place
abbrev pub row_readings : WholePicture → List ℕ → ℕ → List Reading
row_readings pic components row = map (λ c. reading_of c row (line_of pic c row)) components

-- the lines of interval k, placed as a reader places them
abbrev pub interval_readings : WholePicture → Scan → ℕ → List Reading
interval_readings pic s k = placed s.components (first_row s k) 0 (interval_lines pic s k)

-- the readings of all intervals of a scan
abbrev pub scan_readings : WholePicture → Scan → List Reading
scan_readings pic s = flat_map (interval_readings pic s) (range_with_len 0 (intervals s))

-- all intervals of all scans of the file
abbrev pub written_readings : WholePicture → WriteOptions → List Reading
written_readings pic o = flat_map (λ components. scan_readings pic (scan_of pic o components)) (components_of_scans pic o)

-- how often a list has this line of a component
abbrev pub count_at : ℕ → ℕ → List Reading → ℕ
count_at component line [] = 0
count_at component line (r ∷ rs) = (if (r.component == component) && (r.line == line) then 1 else 0) + count_at component line rs

-- a reading is a line of the picture
abbrev pub IsLineOf : WholePicture → Reading → Type 0
IsLineOf pic r = (r.component < length pic.shape.ids) × (r.line < pic.shape.height) × (r.samples ≡ line_of pic r.component r.line)

-- the picture's lines, each component and line once
pub record AreThePicture (pic : WholePicture) (rs : List Reading) : Type 0 where
  pub each : AllByRecursion (IsLineOf pic) rs
  pub once : (component line : ℕ) → component < length pic.shape.ids → line < pic.shape.height → count_at component line rs ≡ 1

-- the intervals of a scan are its rows, each once and in order
abbrev pub IntervalsAreRows : Type 0
IntervalsAreRows = (pic : WholePicture) (s : Scan) → 1 ≤ length s.components
    → scan_readings pic s ≡ flat_map (row_readings pic s.components) (range_with_len 0 s.height)

-- the intervals of all scans are the picture, whatever the options
abbrev pub IntervalsCover : Type 0
IntervalsCover = (pic : WholePicture) (o : WriteOptions) → 1 ≤ length pic.shape.ids → AreThePicture pic (written_readings pic o)

-- such a list contains the lines of the picture and no other reading
abbrev pub ContainsThePicture : Type 0
ContainsThePicture = (pic : WholePicture) (rs : List Reading) → AreThePicture pic rs → (r : Reading) → Contains rs r ↔ IsLineOf pic r
