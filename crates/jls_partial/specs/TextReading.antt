-- Reading a text from the start, with the first fault that is met and its offset.
-- Each reader answers a value and the bytes after it, or a fault; the magic has no value. `size` is the length of the
-- whole text, so that the offset of what is next is the size less the length of what is left.
use Rattle.std.specs.Prelude.{◌≡◌, ℕ, zero, suc, ◌-◌, ◌^◌, Bool, true, ◌&&◌, ◌==◌, nat_lt, nat_le, List, [], ◌∷◌, length, take, drop}
use Rattle.std.specs.Prelude.{Option, Some, None, Result, Ok, Err, if◌then◌else◌}
use Rattle.std.specs.Int.{Width, w16, w32, w64, byte_len, from_be_bytes}
use Rattle.std.specs.Ordering.{nat_cmp, is_lt}
use Rattle.std.specs.Cmp.Lexicographic.{slice_cmp}
use Rattle.jls_values.specs.Shape.{PictureShape}
use Rattle.jls_values.specs.ShapeOf.{size_fault, shape_of}
use Rattle.jls_partial.specs.declared.text_fault.TextFault.{TextFault}
use Rattle.jls_partial.specs.declared.text_fault.TextFault.TheVariants as fault
use Rattle.jls_partial.specs.declared.line_place.LinePlace.{LinePlace}
use Rattle.jls_partial.specs.LinePlace.{place_cmp}
use Rattle.jls_partial.specs.Partial.{PartialPicture}
use Rattle.jls_partial.specs.Entries.{Entry, partial_of}
use Rattle.jls_partial.specs.Packed.{Kept}
use Rattle.jls_partial.specs.declared.version.Version.{Version}
use Rattle.jls_partial.specs.declared.version.Version.TheVariants.{One, Two}
use Rattle.jls_partial.specs.Text.{magic}

infixl 10 ◌>>=◌
-- what follows from what was read, or the fault of reading
abbrev pub ◌>>=◌ : {A B : Type 0} → Result A TextFault → (A → Result B TextFault) → Result B TextFault
(Ok x) >>= f = f x
(Err e) >>= f = Err e

-- reading gives this fault. "Out of memory" says nothing of what reading gives
abbrev pub Fails : {Y : Type 0} → TextFault → Result Y TextFault → Type 0
Fails fault.OutOfMemory read = Unit {0}
Fails f read = read ≡ Err f

-- a result is what reading a text gives, value or fault, unless it is out of memory
abbrev pub GivesText : {X Y : Type 0} → (X → Y) → Result X TextFault → Result Y TextFault → Type 0
GivesText view (Ok x) read = read ≡ Ok (view x)
GivesText view (Err e) read = Fails e read

-- the offset of the first of the bytes that are left
abbrev pub offset : ℕ → List ℕ → ℕ
offset size rest = size - length rest

-- ---- fields: each is Truncated where fewer bytes are left than it has

-- one byte
unfoldable pub byte_field : ℕ → List ℕ → Result (ℕ × List ℕ) TextFault
byte_field size [] = Err (fault.Truncated size)
byte_field size (b ∷ rest) = Ok (b, rest)

-- n bytes
unfoldable pub bytes_field : ℕ → ℕ → List ℕ → Result (List ℕ × List ℕ) TextFault
bytes_field size n bytes = if nat_lt (length bytes) n then Err (fault.Truncated size) else Ok (take n bytes, drop n bytes)

-- a number in as many bytes as its width has, the most significant first
abbrev pub number_field : ℕ → Width → List ℕ → Result (ℕ × List ℕ) TextFault
number_field size w bytes =
    if nat_lt (length bytes) (byte_len w) then Err (fault.Truncated size)
    else Ok (from_be_bytes w (take (byte_len w) bytes), drop (byte_len w) bytes)

-- the bytes of the magic, each a field of its own, and the fault is at the first that differs; what follows them
unfoldable pub magic_field : ℕ → List ℕ → List ℕ → Result (List ℕ) TextFault
magic_field size [] bytes = Ok bytes
magic_field size (wanted ∷ others) bytes = do
  first ← byte_field size bytes
  if first.0 == wanted then magic_field size others first.1 else Err (fault.Magic (offset size bytes))

-- the version, whose byte is 1 or 2
unfoldable pub version_field : ℕ → List ℕ → Result (Version × List ℕ) TextFault
version_field size bytes = do
  byte ← byte_field size bytes
  if byte.0 == 1 then Ok (One, byte.1) else if byte.0 == 2 then Ok (Two, byte.1) else Err (fault.Magic (offset size bytes))

-- ---- the shape

-- where the fields of the shape begin
abbrev pub shape_offset : ℕ
shape_offset = 5

-- the value, or if there is a fault BadShape at the first field of the shape
abbrev pub unless_bad_shape : {A E : Type 0} → Option E → A → Result A TextFault
unless_bad_shape None x = Ok x
unless_bad_shape (Some e) x = Err (fault.BadShape shape_offset)

-- the shape that the fields make, or if they make none BadShape at the first of them
abbrev pub shape_or_fault : {E : Type 0} → Result PictureShape E → Result PictureShape TextFault
shape_or_fault (Ok shape) = Ok shape
shape_or_fault (Err e) = Err (fault.BadShape shape_offset)

-- the shape, which is judged after the number of components and again after the identifiers
unfoldable pub shape_fields : ℕ → List ℕ → Result (PictureShape × List ℕ) TextFault
shape_fields size bytes = do
  precision ← byte_field size bytes
  width ← number_field size w16 precision.1
  height ← number_field size w16 width.1
  count ← byte_field size height.1
  id_bytes ← unless_bad_shape (size_fault precision.0 width.0 height.0 count.0) count.1
  ids ← bytes_field size count.0 id_bytes
  shape ← shape_or_fault (shape_of precision.0 width.0 height.0 ids.0)
  Ok (shape, ids.1)

-- ---- readings

-- a sample, which has to be below the limit
unfoldable pub sample_field : ℕ → ℕ → List ℕ → Result (ℕ × List ℕ) TextFault
sample_field size limit bytes = do
  sample ← number_field size w16 bytes
  if nat_le limit sample.0 then Err (fault.Sample (offset size bytes)) else Ok sample

-- n samples
unfoldable pub samples_fields : ℕ → ℕ → ℕ → List ℕ → Result (List ℕ × List ℕ) TextFault
samples_fields size limit zero bytes = Ok ([], bytes)
samples_fields size limit (suc n) bytes = do
  first ← sample_field size limit bytes
  others ← samples_fields size limit n first.1
  Ok (first.0 ∷ others.0, others.1)

-- whether a reading is above the one before
abbrev pub is_above : Option (List ℕ) → List ℕ → Bool
is_above None samples = true
is_above (Some before) samples = is_lt (slice_cmp nat_cmp before samples)

-- one reading, which has to be above the one before
unfoldable pub reading_fields : ℕ → PictureShape → Option (List ℕ) → List ℕ → Result (List ℕ × List ℕ) TextFault
reading_fields size shape before bytes = do
  samples ← samples_fields size (2 ^ shape.precision) shape.width bytes
  if is_above before samples.0 then Ok samples else Err (fault.Order (offset size bytes))

-- whether a source is above the one before
abbrev pub is_source_above : Option ℕ → ℕ → Bool
is_source_above None source = true
is_source_above (Some before) source = nat_lt before source

-- a source, which has to be above the one before
unfoldable pub source_field : ℕ → Option ℕ → List ℕ → Result (ℕ × List ℕ) TextFault
source_field size before bytes = do
  source ← number_field size w32 bytes
  if is_source_above before source.0 then Ok source else Err (fault.Order (offset size bytes))

-- n sources, each above the one before
unfoldable pub sources_fields : ℕ → Option ℕ → ℕ → List ℕ → Result (List ℕ × List ℕ) TextFault
sources_fields size before zero bytes = Ok ([], bytes)
sources_fields size before (suc n) bytes = do
  first ← source_field size before bytes
  others ← sources_fields size (Some first.0) n first.1
  Ok (first.0 ∷ others.0, others.1)

-- the sources of a reading: in version 2 as many as their number says, in version 1 none
unfoldable pub own_sources_fields : ℕ → Version → List ℕ → Result (List ℕ × List ℕ) TextFault
own_sources_fields size One bytes = Ok ([], bytes)
own_sources_fields size Two bytes = do
  count ← number_field size w64 bytes
  sources_fields size None count.0 count.1

-- a reading with its sources
unfoldable pub kept_fields : ℕ → Version → PictureShape → Option (List ℕ) → List ℕ → Result (Kept × List ℕ) TextFault
kept_fields size version shape before bytes = do
  samples ← reading_fields size shape before bytes
  sources ← own_sources_fields size version samples.1
  Ok ((samples.0, sources.0), sources.1)

-- n readings of one line, each above the one before
unfoldable pub readings_fields : ℕ → Version → PictureShape → Option (List ℕ) → ℕ → List ℕ → Result (List Kept × List ℕ) TextFault
readings_fields size version shape before zero bytes = Ok ([], bytes)
readings_fields size version shape before (suc n) bytes = do
  first ← kept_fields size version shape before bytes
  others ← readings_fields size version shape (Some first.0.0) n first.1
  Ok (first.0 ∷ others.0, others.1)

-- ---- entries

-- whether an entry of this line may follow the entry before: the picture has the line, and it is after that of the entry before
abbrev pub may_follow : PictureShape → Option LinePlace → LinePlace → Bool
may_follow shape None place = nat_lt place.component (length shape.ids) && nat_lt place.line shape.height
may_follow shape (Some before) place = is_lt (place_cmp before place)
    && (nat_lt place.component (length shape.ids) && nat_lt place.line shape.height)

-- the line of an entry
unfoldable pub place_fields : ℕ → PictureShape → Option LinePlace → List ℕ → Result (LinePlace × List ℕ) TextFault
place_fields size shape before bytes = do
  component ← byte_field size bytes
  line ← number_field size w16 component.1
  if may_follow shape before (record { component = component.0; line = line.0 })
      then Ok (record { component = component.0; line = line.0 }, line.1)
      else Err (fault.Place (offset size bytes))

-- how many readings an entry has: one or more
unfoldable pub count_field : ℕ → List ℕ → Result (ℕ × List ℕ) TextFault
count_field size bytes = do
  count ← number_field size w64 bytes
  if count.0 == 0 then Err (fault.Count (offset size bytes)) else Ok count

-- a place, and as many readings as the count says
unfoldable pub entry_fields : ℕ → Version → PictureShape → Option LinePlace → List ℕ → Result (Entry × List ℕ) TextFault
entry_fields size version shape before bytes = do
  place ← place_fields size shape before bytes
  count ← count_field size place.1
  readings ← readings_fields size version shape None count.0 count.1
  Ok ((place.0, readings.0), readings.1)

-- n entries, each of a line after that of the one before
unfoldable pub entries_fields : ℕ → Version → PictureShape → Option LinePlace → ℕ → List ℕ → Result (List Entry × List ℕ) TextFault
entries_fields size version shape before zero bytes = Ok ([], bytes)
entries_fields size version shape before (suc n) bytes = do
  first ← entry_fields size version shape before bytes
  others ← entries_fields size version shape (Some first.0.0) n first.1
  Ok (first.0 ∷ others.0, others.1)

-- ---- the text

-- the shape, the entries, and the bytes after the last of these
unfoldable pub text_fields : ℕ → List ℕ → Result (PictureShape × List Entry × List ℕ) TextFault
text_fields size bytes = do
  version_bytes ← magic_field size magic bytes
  version ← version_field size version_bytes
  shape ← shape_fields size version.1
  count ← number_field size w32 shape.1
  entries ← entries_fields size version.0 shape.0 None count.0 count.1
  Ok (shape.0, entries.0, entries.1)

-- the partial picture whose text the bytes are, or the first fault with its offset. Nothing may follow the last entry
unfoldable pub read_text : List ℕ → Result PartialPicture TextFault
read_text bytes = do
  fields ← text_fields (length bytes) bytes
  if length fields.2 == 0 then Ok (partial_of fields.0 fields.1) else Err (fault.Trailing (offset (length bytes) fields.2))
