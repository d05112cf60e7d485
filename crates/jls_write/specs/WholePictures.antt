-- What makes a picture: its values are in their ranges, and no line is left out (T.87 C.2.2).
use Rattle.std.specs.Prelude.{◌≡◌, ℕ, ◌^◌, ◌<◌, List, length}
use Rattle.std.specs.List.{AllByRecursion}
use Rattle.jls_values.specs.Shape.{PictureShape, IsShape}
use Rattle.jls_write.specs.Picture.{WholePicture, line_of}

-- a line has as many samples as the picture has columns, each of the picture's precision (T.87 C.2.2)
abbrev pub IsLineIn : PictureShape → List ℕ → Type 0
IsLineIn shape line = (length line ≡ shape.width) × AllByRecursion (λ sample. sample < 2 ^ shape.precision) line

-- a component has all lines (T.87 C.2.2)
abbrev pub IsComponentIn : PictureShape → List (List ℕ) → Type 0
IsComponentIn shape lines = (length lines ≡ shape.height) × AllByRecursion (IsLineIn shape) lines

-- a picture in its ranges: a shape in its ranges, and for each component all its lines, each with samples of the precision (T.87 C.2.2)
pub record IsPicture (pic : WholePicture) : Type 0 where
  pub shape : IsShape pic.shape
  pub components : length pic.lines ≡ length pic.shape.ids
  pub each : AllByRecursion (IsComponentIn pic.shape) pic.lines

-- a shape in its ranges, and each line as wide as the picture. A file needs no more to be read back
pub record IsWholePicture (pic : WholePicture) : Type 0 where
  pub shape : IsShape pic.shape
  pub widths : (component line : ℕ) → component < length pic.shape.ids → line < pic.shape.height
      → length (line_of pic component line) ≡ pic.shape.width
