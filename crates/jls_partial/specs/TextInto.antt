-- Reading a text into a partial picture, which takes each reading as soon as it is read.
use Rattle.std.specs.Prelude.{ℕ, List, length, map, ◌==◌, Result, Ok, Err, if◌then◌else◌}
use Rattle.std.specs.Int.{w32}
use Rattle.jls_values.specs.Shape.{PictureShape}
use Rattle.jls_partial.specs.declared.text_fault.TextFault.TheVariants as fault
use Rattle.jls_partial.specs.declared.version.Version.{Version}
use Rattle.jls_partial.specs.Text.{magic}
use Rattle.jls_partial.specs.declared.text_fault.TextFault.{TextFault}
use Rattle.jls_partial.specs.declared.line_place.LinePlace.{LinePlace}
use Rattle.jls_partial.specs.Entries.{Entry, kept_at_place, kept_readings}
use Rattle.jls_partial.specs.Packed.{Kept}
use Rattle.jls_partial.specs.Partial.{PartialPicture, with_all}
use Rattle.jls_partial.specs.TextReading.{◌>>=◌, offset, number_field, magic_field, version_field, shape_fields}

-- the partial picture with the readings of one line, and the bytes after them
abbrev pub with_readings : PartialPicture → LinePlace → Result (List Kept × List ℕ) TextFault → Result (PartialPicture × List ℕ) TextFault
with_readings p at read = read >>= λ x. Ok (with_all p (map (kept_at_place at) x.0), x.1)

-- with those of one entry, the place of the entry, and the bytes after it
abbrev pub with_entry : PartialPicture → Result (Entry × List ℕ) TextFault → Result (PartialPicture × LinePlace × List ℕ) TextFault
with_entry p read = read >>= λ x. Ok (with_all p (map (kept_at_place x.0.0) x.0.1), x.0.0, x.1)

-- with those of all entries, and the bytes after them
abbrev pub with_entries : PartialPicture → Result (List Entry × List ℕ) TextFault → Result (PartialPicture × List ℕ) TextFault
with_entries p read = read >>= λ x. Ok (with_all p (kept_readings x.0), x.1)

-- with those of all entries, after which nothing may stand
abbrev pub with_rest : ℕ → PartialPicture → Result (List Entry × List ℕ) TextFault → Result PartialPicture TextFault
with_rest size p read = with_entries p read >>= λ x. if length x.1 == 0 then Ok x.0 else Err (fault.Trailing (offset size x.1))

-- what is read before the entries: the length of the text, its version, the shape, the number of entries, and the bytes after it
unfoldable pub head_fields : List ℕ → Result (ℕ × Version × PictureShape × ℕ × List ℕ) TextFault
head_fields bytes = do
  version_bytes ← magic_field (length bytes) magic bytes
  version ← version_field (length bytes) version_bytes
  shape ← shape_fields (length bytes) version.1
  count ← number_field (length bytes) w32 shape.1
  Ok (length bytes, version.0, shape.0, count.0, count.1)
