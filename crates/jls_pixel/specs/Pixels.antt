-- The rows of an interval that is interleaved by sample, and the samples round a pixel (T.87 A.2 and A.3; B.2 for the order).
use Rattle.std.specs.Prelude.{◌≡◌, ℕ, ◌-◌, ◌≤◌, Bool, nat_lt, if◌then◌else◌, List, [], length, get_or, map}
use Rattle.std.specs.List.{AllByRecursion, list_all, range_with_len}
use Rattle.jls_values.specs.Params.{CodingParameters}
use Rattle.jls_context.specs.declared.mode.Neighbours.{Neighbours}
use Rattle.jls_context.specs.Mode.{is_run_mode}
use Rattle.jls_interval.specs.Events.{neighbours}

-- what is agreed on of an interval by sample: the parameters, the columns, the components of a pixel, and the rows
pub record PixelShape : Type 0 where
  pub params : CodingParameters
  pub width : ℕ
  pub components : ℕ
  pub row_count : ℕ

-- the interval of these four
abbrev pub pixel_shape : CodingParameters → ℕ → ℕ → ℕ → PixelShape
pixel_shape params width components row_count =
    record { params = params; width = width; components = components; row_count = row_count }

-- a pixel: a sample of each component, in the order of the scan, and none above MAXVAL (T.87 B.2)
abbrev pub IsPixel : CodingParameters → ℕ → List ℕ → Type 0
IsPixel p components pixel = (length pixel ≡ components) × AllByRecursion (λ sample. sample ≤ p.maxval) pixel

-- a row: pixels, one for each column (T.87 B.2)
abbrev pub IsRow : CodingParameters → ℕ → ℕ → List (List ℕ) → Type 0
IsRow p width components row = (length row ≡ width) × AllByRecursion (IsPixel p components) row

-- so many rows of this width (T.87 B.2)
pub record AreRows (p : CodingParameters) (width components count : ℕ) (rows : List (List (List ℕ))) : Type 0 where
  pub count_is : length rows ≡ count
  pub each : AllByRecursion (IsRow p width components) rows

-- the samples of one component in pixels (T.87 B.2)
abbrev pub samples_of : ℕ → List (List ℕ) → List ℕ
samples_of component pixels = map (λ pixel. get_or pixel component 0) pixels

-- the two rows above a row. A row that isn't there reads as zeros (T.87 A.2)
pub record RowsAbove : Type 0 where
  pub row_above : List (List ℕ)
  pub row_two_above : List (List ℕ)

-- the row so many places back, or none
abbrev pub row_back : List (List (List ℕ)) → ℕ → List (List ℕ)
row_back rows back = if (nat_lt (length rows) back) then [] else get_or rows (length rows - back) []

-- the rows above the row that follows these
abbrev pub rows_above : List (List (List ℕ)) → RowsAbove
rows_above rows = record { row_above = row_back rows 1; row_two_above = row_back rows 2 }

-- The next pixel of a row that begins with the pixels `row`, below two rows
module _ (width : ℕ) (up : RowsAbove) (row : List (List ℕ)) where
  -- the samples round its sample of a component: those of this component by itself, as if its samples were a line (T.87 A.3, B.2)
  abbrev pub component_neighbours : ℕ → Neighbours
  component_neighbours component =
      neighbours width
      (record { line_above = samples_of component up.row_above; line_two_above = samples_of component up.row_two_above })
      (samples_of component row) (length row)

  -- the same of each component, in order (T.87 A.3, B.2)
  abbrev pub pixel_neighbours : ℕ → List Neighbours
  pixel_neighbours components = map component_neighbours (range_with_len 0 components)

-- whether a pixel is in run mode: the gradients of all its components are 0. If not, each of its samples is coded in regular mode, also one
-- whose own gradients are 0, which has context 0 (T.87 A.3.2, B.2)
abbrev pub is_run_pixel : List Neighbours → Bool
is_run_pixel nears = list_all is_run_mode nears

-- the value of a run that begins at a pixel: Ra of each component (T.87 A.7.1, B.2)
abbrev pub run_value : List Neighbours → List ℕ
run_value nears = map (λ (near : Neighbours). near.ra) nears
