-- What is answered where samples are written as a JPEG-LS file.
use Rattle.std.specs.Prelude.{◌≡◌, ℕ, ◌*◌, ◌^◌, ◌<◌, ◌≤◌, not, ◌==◌, nat_le, true, Ok, List, [], ◌∷◌, length, take}
use Rattle.std.specs.List.{list_any}
use Rattle.jls_values.specs.ParamsOf.{params_of}
use Rattle.jls_values.specs.PresetParameters.{no_presets}
use Rattle.jls_values.specs.Shape.{PictureShape}
use Rattle.jls_values.specs.ShapeOf.{shape_of}
use Rattle.jls_write.specs.Options.{WriteOptions, OptionsFit, components_of_scan, rows_of_interval}
use Rattle.jls_write.specs.Samples.{picture_in}
use Rattle.jls_write.specs.WrittenFile.{written_file}
use Rattle.jls_c.specs.Answers.{BeginsWith}
use Rattle.jls_c.specs.Info.{sample_count}
use Rattle.jls_c.specs.declared.frame.JlsFrame.{JlsFrame}

-- ---- what a caller asks for

-- the identifiers of so many components, of which there are four at most: 1, 2, 3, 4
abbrev pub ids_of : ℕ → List ℕ
ids_of components = take components (1 ∷ 2 ∷ 3 ∷ 4 ∷ [])

-- the shape
pub record IsShapeOf (f : JlsFrame) (shape : PictureShape) : Type 0 where
  pub few : f.components ≤ 4
  pub shape_is : shape_of f.precision f.width f.height (ids_of f.components) ≡ Ok shape

-- the options, with the default parameters of the precision
pub record AreOptionsOf (f : JlsFrame) (options : WriteOptions) : Type 0 where
  pub defaults : params_of f.precision no_presets ≡ Ok options.params
  pub line_is : options.line ≡ not (f.interleaved == 0)
  pub interval_is : options.restart_interval ≡ f.restart_interval

-- a shape and options that these fields make, with so many samples
pub record IsPlanOf (f : JlsFrame) (count : ℕ) (shape : PictureShape) (options : WriteOptions) : Type 0 where
  pub is_shape : IsShapeOf f shape
  pub are_options : AreOptionsOf f options
  pub count_is : count ≡ sample_count shape

-- there are such a shape and such options
pub record HasPlan (f : JlsFrame) (count : ℕ) : Type 0 where
  pub shape : PictureShape
  pub options : WriteOptions
  pub plan : IsPlanOf f count shape options

-- ---- refusals

-- some sample has more bits than the precision
pub record HasLargeSample (f : JlsFrame) (samples : List ℕ) : Type 0 where
  pub shape : PictureShape
  pub is_shape : IsShapeOf f shape
  pub large : list_any (λ x. nat_le (2 ^ shape.precision) x) samples ≡ true

-- an interval has more than 2^28 samples
pub record HasLargeInterval (f : JlsFrame) : Type 0 where
  pub shape : PictureShape
  pub options : WriteOptions
  pub is_shape : IsShapeOf f shape
  pub are_options : AreOptionsOf f options
  pub large : 2 ^ 28 < shape.width * components_of_scan shape options * rows_of_interval shape options

-- ---- the file

-- the file of a caller's samples
pub record IsFileOf (f : JlsFrame) (samples file : List ℕ) : Type 0 where
  pub shape : PictureShape
  pub options : WriteOptions
  pub plan : IsPlanOf f (length samples) shape options
  pub fit : OptionsFit (picture_in shape samples) options
  pub file_is : file ≡ written_file (picture_in shape samples) options

-- the buffer begins with the file, and goes on as it was
pub record IsWritten (f : JlsFrame) (samples : List ℕ) (size : ℕ) (old new : List ℕ) : Type 0 where
  pub file : List ℕ
  pub is_file : IsFileOf f samples file
  pub size_is : size ≡ length file
  pub fits : length file ≤ length old
  pub bytes_are : BeginsWith file old new

-- there is too little room for the file
pub record IsFileLonger (f : JlsFrame) (samples : List ℕ) (size room : ℕ) : Type 0 where
  pub file : List ℕ
  pub is_file : IsFileOf f samples file
  pub size_is : size ≡ length file
  pub longer : room < length file
