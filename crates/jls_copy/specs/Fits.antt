-- Lines that fit into a picture of a shape.
use Rattle.std.specs.Prelude.{◌≡◌, ℕ, ◌+◌, ◌*◌, ◌^◌, ◌<◌, ◌≤◌, List, length}
use Rattle.std.specs.List.{AllByRecursion}
use Rattle.jls_values.specs.Shape.{PictureShape}

-- a line of the width, whose samples have at most P bits
abbrev pub IsLineOfShape : PictureShape → List ℕ → Type 0
IsLineOfShape shape line = (length line ≡ shape.width) × AllByRecursion (λ sample. sample < 2 ^ shape.precision) line

-- so many lines of these components fit below this row, from this place among the components on
pub record FitFrom (shape : PictureShape) (components : List ℕ) (row place : ℕ) (lines : List (List ℕ)) : Type 0 where
  pub height_below : shape.height < 2 ^ 16
  pub components_in : AllByRecursion (λ c. c < length shape.ids) components
  pub place_in : place < length components
  pub room : row * length components + place + length lines ≤ shape.height * length components
  pub each : AllByRecursion (IsLineOfShape shape) lines
