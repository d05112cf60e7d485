-- What a contract sees of a decoder that is given bytes, and what its fields say of them.
use Rattle.std.specs.Prelude.{◌≡◌, ℕ, ◌*◌, ◌<◌, ◌≤◌, ◌^◌, Bool, true, false, List, ◌++◌, length, Option, Some, None}
use Rattle.std.specs.List.{AllByRecursion}
use Rattle.jls_values.specs.Params.{CodingParameters, AreCodingParameters}
use Rattle.jls_bits.specs.Bits.{bits_read, is_whole}
use Rattle.jls_interval.specs.Lines.{IntervalShape, interval_shape}
use Rattle.jls_interval.specs.Decoding.{IsReading, HaveWidth}
use Rattle.jls_interval.specs.declared.interval_reader.IntervalReader.{IntervalReader}

-- what contracts see of an `IntervalDecoder`: the parameters, width, components and rows of the interval, and the bytes pushed, or none
-- once memory was refused
pub record IntervalBytes : Type 0 where
  pub parameters : CodingParameters
  pub width : ℕ
  pub components : ℕ
  pub rows : ℕ
  pub bytes : Option (List ℕ)

-- the shape of that interval: in each row a line of each component
abbrev pub interval_asked : IntervalBytes → IntervalShape
interval_asked d = interval_shape d.parameters d.width d.components (d.rows * d.components)

-- the bytes, where memory was refused or not
abbrev pub bytes_of : Bool → List ℕ → Option (List ℕ)
bytes_of true bytes = None
bytes_of false bytes = Some bytes

-- Inside the crate. A reader was given all data bits of the bytes, where these have data bits
abbrev pub IsReadingOf : CodingParameters → List ℕ → IntervalReader → Type 0
IsReadingOf p bytes d = is_whole bytes ≡ true → IsReading p (bits_read bytes) d

-- How much a reader holds: at most eight finished lines for each byte, no more than the interval has, and each of its width; beside them
-- a line in work
pub record HasLengths (bytes : List ℕ) (d : IntervalReader) : Type 0 where
  pub lines_paid : length d.lines ≤ 8 * length bytes
  pub lines_at_most : length d.lines ≤ d.count
  pub lines_wide : HaveWidth d.reader.width d.lines
  pub line_at_most : length d.reader.line.items ≤ d.reader.width

-- The first bits of the bytes were given to a reader, and the others are those of the chunk
pub record IsReadingBefore (p : CodingParameters) (bytes : List ℕ) (chunk : List Bool) (d : IntervalReader) : Type 0 where
  pub given : List Bool
  pub bits_are : bits_read bytes ≡ given ++ chunk
  pub reading : IsReading p given d

-- the same, where the bytes have data bits
abbrev pub ReadsBefore : CodingParameters → List ℕ → List Bool → IntervalReader → Type 0
ReadsBefore p bytes chunk d = is_whole bytes ≡ true → IsReadingBefore p bytes chunk d

-- The fields of a decoder, until memory is refused: what they say of the bytes so far, and how much they hold. There
-- are at most eight finished lines for each byte, no more than the interval has, and each of its width; beside them a line in work
pub record IsDecoding (p : CodingParameters) (rows : ℕ) (bytes : List ℕ) (ended : Bool) (d : IntervalReader) : Type 0 where
  pub ended_is : ended ≡ true → is_whole bytes ≡ false
  pub whole : ended ≡ false → is_whole bytes ≡ true
  pub reading : ended ≡ false → IsReading p (bits_read bytes) d
  pub lines_paid : length d.lines ≤ 8 * length bytes
  pub lines_at_most : length d.lines ≤ rows * d.components
  pub lines_wide : HaveWidth d.reader.width d.lines
  pub line_at_most : length d.reader.line.items ≤ d.reader.width

-- the same, where memory may have been refused. An interval has at most 2^28 samples
pub record IsDecoder (p : CodingParameters) (rows : ℕ) (bytes : List ℕ) (ended refused : Bool) (d : IntervalReader) : Type 0 where
  pub in_range : AreCodingParameters p
  pub width_at_least : 0 < d.reader.width
  pub are_bytes : AllByRecursion (λ x. x < 256) bytes
  pub count_is : d.count ≡ rows * d.components
  pub samples_at_most : d.reader.width * d.components * rows ≤ 2 ^ 28
  pub decoding : refused ≡ false → IsDecoding p rows bytes ended d
