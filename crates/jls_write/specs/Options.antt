-- How a picture is written as JPEG-LS, and which pictures can be written so. That an interval has at most 2^28 samples is this project's
-- choice.
use Rattle.std.specs.Prelude.{◌≡◌, ℕ, ◌*◌, ◌^◌, ◌<◌, ◌≤◌, Bool, ◌==◌, min, All, length, if◌then◌else◌}
use Rattle.jls_values.specs.Shape.{PictureShape}
use Rattle.jls_values.specs.Params.{CodingParameters}
use Rattle.jls_write.specs.Picture.{WholePicture, line_of}

-- all components in one scan, line by line, or each in a scan of its own. The restart interval in rows, 0 for none. The parameters (T.87
-- C.2.3, C.2.4)
pub record WriteOptions : Type 0 where
  pub line : Bool
  pub restart_interval : ℕ
  pub params : CodingParameters

-- how many components each scan has (T.87 C.2.3, C.2.4)
abbrev pub components_of_scan : PictureShape → WriteOptions → ℕ
components_of_scan shape o = if o.line then length shape.ids else 1

-- how many rows the longest restart interval has: the first one (T.87 C.2.3, C.2.4)
abbrev pub rows_of_interval : PictureShape → WriteOptions → ℕ
rows_of_interval shape o = if o.restart_interval == 0 then shape.height else min o.restart_interval shape.height

-- The parameters are of the picture's precision, no sample is above MAXVAL, and no interval has more than 2^28 samples (T.87 C.2.3, C.2.4)
pub record OptionsFit (pic : WholePicture) (o : WriteOptions) : Type 0 where
  pub precision : o.params.precision ≡ pic.shape.precision
  pub samples : (component : ℕ) → component < length pic.shape.ids → (line : ℕ) → line < pic.shape.height
      → All (λ sample. sample ≤ o.params.maxval) (line_of pic component line)
  pub interval : pic.shape.width * components_of_scan pic.shape o * rows_of_interval pic.shape o ≤ 2 ^ 28
