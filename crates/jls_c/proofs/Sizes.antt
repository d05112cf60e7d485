-- What fits a shape.
use Rattle.std.proofs.Common.{◌≡◌, ℕ, List, length, None}
use Rattle.jls_values.specs.Shape.{PictureShape}
use Rattle.jls_partial.specs.InsertFaults.{reading_fault}
use Rattle.jls_write.proofs.Lending.{fits_shape}

-- a reading that fits has as many samples as a line
pub reading_width : (shape : PictureShape) (component line : ℕ) (samples : List ℕ) → reading_fault shape component line samples ≡ None
    → length samples ≡ shape.width
reading_width shape component line samples e = (fits_shape shape component line samples e).0
