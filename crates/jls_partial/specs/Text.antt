-- The texts of a partial picture. Version 2 is what is written; version 1, which has no source numbers, is read too.
use Rattle.std.specs.Prelude.{◌≡◌, ℕ, List, [], ◌∷◌, ◌++◌, length, map}
use Rattle.std.specs.List.{flat_map}
use Rattle.std.specs.Int.{w16, w32, w64, to_be_bytes}
use Rattle.jls_values.specs.OrderedSet as set
use Rattle.jls_values.specs.Shape.{PictureShape, IsShape}
use Rattle.jls_partial.specs.declared.line_place.LinePlace.{LinePlace}
use Rattle.jls_partial.specs.declared.version.Version.{Version}
use Rattle.jls_partial.specs.declared.version.Version.TheVariants.{One, Two}
use Rattle.jls_partial.specs.Entries.{Entry, BareEntry}
use Rattle.jls_partial.specs.Packed.{Kept}
use Rattle.jls_partial.specs.Partial.{PartialPicture, readings_at, sources_at, IsFitting, IsCountable, AreMarksHeld, AreSourcesSmall}
use Rattle.jls_partial.specs.LinePlace.{place_cmp, place_of}

-- the places that have a reading, each once, in ascending order
abbrev pub places_held : PartialPicture → List LinePlace
places_held p = set.items (set.from_list {R = place_cmp} (map place_of (set.items p.readings)))

-- an entry for each of them, with its sample lists in ascending order
abbrev pub bare_entries : PartialPicture → List BareEntry
bare_entries p = map (λ at. (at, readings_at p at.component at.line)) (places_held p)

-- the entries, with the source numbers of each reading
abbrev pub with_own_sources : PartialPicture → BareEntry → Entry
with_own_sources p e = (e.0, map (λ samples. (samples, sources_at p e.0.component e.0.line samples)) e.1)

-- the lines that have a reading, in order, each with its readings and their sources
abbrev pub entries : PartialPicture → List Entry
entries p = map (with_own_sources p) (bare_entries p)

-- the bytes of `JLSP`
abbrev pub magic : List ℕ
magic = 0x4A ∷ 0x4C ∷ 0x53 ∷ 0x50 ∷ []

-- the byte of a version in a text
abbrev pub version_byte : Version → ℕ
version_byte One = 1
version_byte Two = 2

-- precision, width, height, the number of components, and their identifiers
abbrev pub shape_text : PictureShape → List ℕ
shape_text shape = shape.precision ∷ to_be_bytes w16 shape.width ++ to_be_bytes w16 shape.height ++ length shape.ids ∷ shape.ids

-- two bytes for each sample
abbrev pub samples_text : List ℕ → List ℕ
samples_text samples = flat_map (to_be_bytes w16) samples

-- the number of sources, and the sources
abbrev pub sources_text : Version → List ℕ → List ℕ
sources_text One sources = []
sources_text Two sources = to_be_bytes w64 (length sources) ++ flat_map (to_be_bytes w32) sources

-- the samples, and what the version has of their sources
abbrev pub reading_text : Version → Kept → List ℕ
reading_text version k = samples_text k.0 ++ sources_text version k.1

-- the index of the component, the line, the number of readings, and the readings
abbrev pub entry_text : Version → Entry → List ℕ
entry_text version e = e.0.component ∷ to_be_bytes w16 e.0.line ++ to_be_bytes w64 (length e.1) ++ flat_map (reading_text version) e.1

-- the bytes before the number of entries
abbrev pub head_text : Version → PictureShape → List ℕ
head_text version shape = magic ++ version_byte version ∷ shape_text shape

-- the text of a shape and entries, with the number of these between
abbrev pub text_of : Version → PictureShape → List Entry → List ℕ
text_of version shape es = head_text version shape ++ to_be_bytes w32 (length es) ++ flat_map (entry_text version) es

-- the text that is written, in version 2
abbrev pub text : PartialPicture → List ℕ
text p = text_of Two p.shape (entries p)

-- A partial picture that has a text. It needs IsCountable: a set may hold any number of readings of a line, but the text has eight bytes
-- for that number
pub record IsPartial (p : PartialPicture) : Type 0 where
  pub shape : IsShape p.shape
  pub fitting : IsFitting p
  pub countable : IsCountable p
  pub marks_held : AreMarksHeld p
  pub sources_small : AreSourcesSmall p

-- whether a text of this version says all of the partial picture: one of version 1 has no place for sources
abbrev pub SaysAll : Version → PartialPicture → Type 0
SaysAll One p = p.marks ≡ set.empty
SaysAll Two p = Unit {0}

-- these bytes are a text of this partial picture: that of version 2, or if no reading has a source that of version 1
pub record IsTextOf (bytes : List ℕ) (p : PartialPicture) : Type 0 where
  pub partial : IsPartial p
  pub version : Version
  pub says_all : SaysAll version p
  pub bytes_are : bytes ≡ text_of version p.shape (entries p)
