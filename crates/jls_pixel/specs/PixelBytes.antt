-- What a contract sees of a decoder that is given bytes, and what its fields say of them.
use Rattle.std.specs.Prelude.{◌≡◌, ℕ, ◌<◌, Bool, true, false, List, Option}
use Rattle.std.specs.List.{AllByRecursion}
use Rattle.jls_values.specs.Params.{CodingParameters, AreCodingParameters}
use Rattle.jls_bits.specs.Bits.{bits_read, is_whole}
use Rattle.jls_pixel.specs.Pixels.{PixelShape, pixel_shape}
use Rattle.jls_pixel.specs.PixelReading.{IsReading}
use Rattle.jls_pixel.specs.declared.pixel_reader.PixelReader.{PixelReader}

-- what contracts see of a `PixelDecoder`: the parameters, columns, components and rows of the interval, and the bytes pushed, or none once
-- memory was refused
pub record PixelBytes : Type 0 where
  pub parameters : CodingParameters
  pub width : ℕ
  pub components : ℕ
  pub rows : ℕ
  pub bytes : Option (List ℕ)

-- the shape of that interval
abbrev pub pixels_asked : PixelBytes → PixelShape
pixels_asked d = pixel_shape d.parameters d.width d.components d.rows

-- Inside the crate. The fields of a decoder, until memory is refused: what they say of the bytes so far
pub record IsDecoding (p : CodingParameters) (bytes : List ℕ) (ended : Bool) (d : PixelReader) : Type 0 where
  pub ended_is : ended ≡ true → is_whole bytes ≡ false
  pub whole : ended ≡ false → is_whole bytes ≡ true
  pub reading : ended ≡ false → IsReading p (bits_read bytes) d

-- the same, where memory may have been refused
pub record IsDecoder (p : CodingParameters) (bytes : List ℕ) (ended refused : Bool) (d : PixelReader) : Type 0 where
  pub in_range : AreCodingParameters p
  pub width_at_least : 0 < d.width
  pub are_bytes : AllByRecursion (λ x. x < 256) bytes
  pub decoding : refused ≡ false → IsDecoding p bytes ended d
