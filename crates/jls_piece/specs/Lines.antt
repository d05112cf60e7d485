-- The lines of a piece of scan data, by line or by sample, and the rows of pixels that they are (T.87 B.2).
use Rattle.std.specs.Prelude.{◌≡◌, ℕ, ◌*◌, ◌/◌, ◌<◌, Bool, true, false, List, length, map}
use Rattle.std.specs.List.{flat_map, range_with_len}
use Rattle.std.specs.Simd.{first_chunks}
use Rattle.jls_values.specs.Params.{CodingParameters}
use Rattle.jls_interval.specs.Lines.{IntervalShape, AreLines}
use Rattle.jls_pixel.specs.Pixels.{PixelShape, AreRows, samples_of}

-- what is agreed on of a piece: the parameters, the columns, the components, the lines of all of them, and whether its samples are
-- interleaved by sample (ILV 2) or not. Lines are row by row, and in a row by component, also by sample (T.87 B.2)
pub record PieceShape : Type 0 where
  pub params : CodingParameters
  pub width : ℕ
  pub components : ℕ
  pub line_count : ℕ
  pub by_sample : Bool

-- the piece of these five
abbrev pub piece_shape : CodingParameters → ℕ → ℕ → ℕ → Bool → PieceShape
piece_shape params width components line_count by_sample =
    record { params = params; width = width; components = components; line_count = line_count; by_sample = by_sample }

-- the piece that an interval by line is
abbrev pub line_piece : IntervalShape → PieceShape
line_piece i = piece_shape i.params i.width i.components i.line_count false

-- the piece that an interval by sample is: in each row a line of each component
abbrev pub pixel_piece : PixelShape → PieceShape
pixel_piece i = piece_shape i.params i.width i.components (i.row_count * i.components) true

-- Rows and lines -------------------------------------------------------------------------------------

-- the samples in place 0 of some lists, those in place 1, and so on: of the pixels of a row its lines, and of the lines of a row its pixels
unfoldable pub turned : ℕ → List (List ℕ) → List (List ℕ)
turned count lists = map (λ place. samples_of place lists) (range_with_len 0 count)

-- the lines of rows of pixels: row by row, and in a row by component
abbrev pub lines_of : ℕ → List (List (List ℕ)) → List (List ℕ)
lines_of components rows = flat_map (turned components) rows

-- the rows of pixels of lines, where each `components` lines are those of a row
unfoldable pub rows_of : ℕ → ℕ → List (List ℕ) → List (List (List ℕ))
rows_of width components lines = map (turned width) (first_chunks components (length lines / components) lines)

-- by sample, the lines are those of whole rows. By line, they may end inside a row
abbrev pub AreOfWholeRows : PieceShape → List (List ℕ) → Type 0
AreOfWholeRows i lines = i.by_sample ≡ true → (rows : ℕ) × (length lines ≡ rows * i.components)

-- Their laws -----------------------------------------------------------------------------------------

-- the lines of rows are so many lines of the width
abbrev pub RowsHaveLines : Type 0
RowsHaveLines =
    (p : CodingParameters) (width components count : ℕ) (rows : List (List (List ℕ))) → AreRows p width components count rows
    → AreLines p width (count * components) (lines_of components rows)

-- each list of lines of whole rows is that of some rows, which `rows_of` computes
abbrev pub LinesHaveRows : Type 0
LinesHaveRows =
    (p : CodingParameters) (width components count : ℕ) (lines : List (List ℕ)) → 0 < components
    → AreLines p width (count * components) lines
    → AreRows p width components count (rows_of width components lines) × (lines_of components (rows_of width components lines) ≡ lines)

-- no two lists of rows have the same lines
abbrev pub RowsAreOne : Type 0
RowsAreOne =
    (p : CodingParameters) (width components count : ℕ) (rows : List (List (List ℕ))) → 0 < components
    → AreRows p width components count rows → rows_of width components (lines_of components rows) ≡ rows
