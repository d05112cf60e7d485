-- The picture that samples make, which stand one after the other: by component in the order of the frame, then by line from top to bottom.
use Rattle.std.specs.Prelude.{◌≡◌, ℕ, ◌*◌, ◌^◌, ◌<◌, List, length, map, take, drop}
use Rattle.std.specs.List.{range_with_len, AllByRecursion}
use Rattle.jls_values.specs.Shape.{PictureShape}
use Rattle.jls_write.specs.Picture.{WholePicture}

-- part k of a list that is cut into parts of this size
abbrev pub part_at : ℕ → List ℕ → ℕ → List ℕ
part_at size xs k = take size (drop (k * size) xs)

-- a line of a component: its part of the component's part of the samples
abbrev pub line_in : PictureShape → List ℕ → ℕ → ℕ → List ℕ
line_in shape samples component line = part_at shape.width (part_at (shape.height * shape.width) samples component) line

-- the lines of a component
abbrev pub lines_in : PictureShape → List ℕ → ℕ → List (List ℕ)
lines_in shape samples component = map (line_in shape samples component) (range_with_len 0 shape.height)

-- the picture
abbrev pub picture_in : PictureShape → List ℕ → WholePicture
picture_in shape samples = record { shape = shape; lines = map (lines_in shape samples) (range_with_len 0 (length shape.ids)) }

-- there are as many samples as the shape has, each of the precision
pub record AreSamplesOf (shape : PictureShape) (samples : List ℕ) : Type 0 where
  pub count : length samples ≡ length shape.ids * (shape.height * shape.width)
  pub in_range : AllByRecursion (λ sample. sample < 2 ^ shape.precision) samples
