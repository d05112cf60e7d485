-- A scan and its restart intervals. That an interval has at most 2^28 samples is this project's choice.
use Rattle.std.specs.Prelude.{◌≡◌, ℕ, ◌+◌, ◌-◌, ◌*◌, ◌/◌, ◌<◌, ◌≤◌, ◌^◌, min, ◌==◌, Bool, false, List, length}
use Rattle.std.specs.Prelude.{if◌then◌else◌}
use Rattle.std.specs.List.{AllByRecursion}
use Rattle.jls_values.specs.Shape.{PictureShape}
use Rattle.jls_values.specs.Params.{CodingParameters, AreCodingParameters}

-- a scan: its components by their indices in the frame, in the order in which they take turns; the parameters in force; the columns and
-- lines of the frame; Ri, the rows of an interval, or 0 if there is one interval; and whether its components are interleaved by sample. A
-- row is a line of each component (T.87 C.2.3)
pub record Scan : Type 0 where
  pub components : List ℕ
  pub params : CodingParameters
  pub width : ℕ
  pub height : ℕ
  pub restart_interval : ℕ
  pub by_sample : Bool

-- a scan of a frame, interleaved by sample or not (T.87 C.2.3)
abbrev pub scan_by : Bool → PictureShape → List ℕ → CodingParameters → ℕ → Scan
scan_by by_sample f components params restart_interval = record {
  components = components;
  params = params;
  width = f.width;
  height = f.height;
  restart_interval = restart_interval;
  by_sample = by_sample;
}

-- a scan of a frame that is not interleaved by sample (T.87 C.2.3)
abbrev pub scan_with : PictureShape → List ℕ → CodingParameters → ℕ → Scan
scan_with f components params restart_interval = scan_by false f components params restart_interval

-- how many intervals a scan has: the height by Ri, rounded up; one, if Ri is 0 (T.81 B.2.4.4; T.87 C.2.5)
abbrev pub intervals : Scan → ℕ
intervals s = if s.restart_interval == 0 then 1 else (s.height + s.restart_interval - 1) / s.restart_interval

-- the first row of an interval (T.81 B.2.4.4; T.87 C.2.5)
abbrev pub first_row : Scan → ℕ → ℕ
first_row s k = k * s.restart_interval

-- how many rows an interval has: Ri, but the last has what is left of the height; the whole height, if Ri is 0 (T.81 B.2.4.4; T.87
-- C.2.5)
abbrev pub row_count : Scan → ℕ → ℕ
row_count s k = if s.restart_interval == 0 then s.height else min s.restart_interval (s.height - k * s.restart_interval)

-- the ranges of a scan: no interval has more than 2^28 samples (T.87 C.2.3)
pub record IsScan (s : Scan) : Type 0 where
  pub params : AreCodingParameters s.params
  pub width_at_least : 1 ≤ s.width
  pub width_below : s.width < 2 ^ 16
  pub height_at_least : 1 ≤ s.height
  pub height_below : s.height < 2 ^ 16
  pub components_at_least : 1 ≤ length s.components
  pub components_at_most : length s.components ≤ 4
  pub components_are_bytes : AllByRecursion (λ c. c < 256) s.components
  pub some_interval : 1 ≤ intervals s
  pub intervals_below : intervals s < 2 ^ 16
  pub first_rows : (k : ℕ) → k < intervals s → first_row s k < s.height
  pub rows_at_least : (k : ℕ) → k < intervals s → 1 ≤ row_count s k
  pub samples_at_most : (k : ℕ) → k < intervals s → s.width * length s.components * row_count s k ≤ 2 ^ 28

-- a scan of this frame (T.87 C.2.3)
pub record IsScanOf (f : PictureShape) (s : Scan) : Type 0 where
  pub precision : s.params.precision ≡ f.precision
  pub width : s.width ≡ f.width
  pub height : s.height ≡ f.height
  pub components_below : AllByRecursion (λ c. c < length f.ids) s.components

-- the interval has this row (T.81 B.2.4.4; T.87 C.2.5)
abbrev pub HasRow : Scan → ℕ → ℕ → Type 0
HasRow s k row = (first_row s k ≤ row) × (row < first_row s k + row_count s k)

-- the intervals divide the lines of the frame: each line is a row of exactly one interval, and each row of an interval is a line (T.81
-- B.2.4.4; T.87 C.2.5)
pub record PartTheLines (s : Scan) : Type 0 where
  pub each : (row : ℕ) → row < s.height → (k : ℕ) × (k < intervals s) × HasRow s k row
  pub once : (row j k : ℕ) → j < intervals s → k < intervals s → HasRow s j row → HasRow s k row → j ≡ k
  pub within : (row k : ℕ) → k < intervals s → HasRow s k row → row < s.height
