-- What comes of a text whose readings are merged into a partial picture.
use Rattle.std.specs.Prelude.{◌≡◌, ℕ, true, false, List, ◌++◌}
use Rattle.jls_values.specs.SameShape.{same_shape}
use Rattle.jls_values.specs.Shape.{PictureShape, IsShape}
use Rattle.jls_partial.specs.declared.text_merging.MergeTextFault.{MergeTextFault}
use Rattle.jls_partial.specs.declared.text_merging.MergeTextFault.TheVariants.{Text, ShapeDiffers}
use Rattle.jls_partial.specs.declared.version.Version.{Version}
use Rattle.jls_partial.specs.Partial.{PartialPicture, has_same_shape, union}
use Rattle.jls_partial.specs.Text.{IsTextOf, head_text}
use Rattle.jls_partial.specs.TextReading.{Fails, read_text}

-- the bytes are a text of a partial picture of the same shape, and this is the union with it
pub record MergesText (old : PartialPicture) (bytes : List ℕ) (new : PartialPicture) : Type 0 where
  pub said : PartialPicture
  pub is_text : IsTextOf bytes said
  pub one_shape : has_same_shape old said ≡ true
  pub union_is : new ≡ union old said

-- the bytes are a text of a partial picture of another shape
pub record HasOtherShape (old : PartialPicture) (bytes : List ℕ) : Type 0 where
  pub said : PartialPicture
  pub is_text : IsTextOf bytes said
  pub other_shape : has_same_shape old said ≡ false

-- the bytes begin like the text of a picture of another shape, whatever follows
pub record HasOtherHead (old : PartialPicture) (bytes : List ℕ) : Type 0 where
  pub version : Version
  pub shape : PictureShape
  pub is_shape : IsShape shape
  pub rest : List ℕ
  pub bytes_are : bytes ≡ head_text version shape ++ rest
  pub other_shape : same_shape old.shape shape ≡ false

-- why the bytes were not merged: this is their first fault, unless memory ran out; or they are the text of another shape
abbrev pub RefusesText : PartialPicture → List ℕ → MergeTextFault → Type 0
RefusesText old bytes (Text f) = Fails f (read_text bytes)
RefusesText old bytes ShapeDiffers = HasOtherShape old bytes
