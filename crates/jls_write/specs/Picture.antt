-- A whole picture: a shape, and for each component, in the order of the frame, its lines from top to bottom, each from left to right.
-- Two pictures are one exactly if their shapes and their lines are.
use Rattle.std.specs.Prelude.{ℕ, List, [], map, length, get_or}
use Rattle.std.specs.List.{range_with_len}
use Rattle.jls_values.specs.Shape.{PictureShape}
use Rattle.jls_partial.specs.Partial.{PartialPicture, readings_at}

-- a picture: its shape, and its samples by component, line and column
pub record WholePicture : Type 0 where
  pub shape : PictureShape
  pub lines : List (List (List ℕ))

-- a line of a component
abbrev pub line_of : WholePicture → ℕ → ℕ → List ℕ
line_of pic component line = get_or (get_or pic.lines component []) line []

-- the one reading of a settled line
abbrev pub settled_line : PartialPicture → ℕ → ℕ → List ℕ
settled_line p component line = get_or (readings_at p component line) 0 []

-- the picture of a partial picture whose lines are all settled
abbrev pub picture_of : PartialPicture → WholePicture
picture_of p = record {
  shape = p.shape;
  lines = map (λ component. map (settled_line p component) (range_with_len 0 p.shape.height)) (range_with_len 0 (length p.shape.ids));
}
