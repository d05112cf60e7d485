-- A partial picture: a shape, and a set of readings of its lines.
use Rattle.std.specs.Prelude.{◌≡◌, true, ℕ, ◌<◌, ◌^◌, Bool, ◌&&◌, ◌==◌, List, length, map, filter, None, refl}
use Rattle.std.specs.Coded.{Coded, code_by, coded×, coded_ℕ, coded_list}
use Rattle.jls_values.specs.OrderedSet as set
use Rattle.jls_values.specs.Shape.{PictureShape}
use Rattle.jls_values.specs.SameShape.{same_shape}
use Rattle.jls_partial.specs.InsertFaults.{reading_fault}
use Rattle.jls_partial.specs.Marks.{mark_cmp, marks_of, sources_of}
use Rattle.jls_partial.specs.Reading.{Reading, reading_of, reading_cmp, coded_reading}

-- A shape, readings of its lines, and the source numbers of these readings: a mark is a reading with one such number. The record alone does
-- not say that the readings fit the shape, nor that a line has few of them, nor that each mark is of a reading that is held. `IsFitting`,
-- `IsCountable` and `AreMarksHeld` of this file, jls_partial/specs/Partial.antt, do, and each value of the program's type meets them
pub record PartialPicture : Type 0 where
  pub shape : PictureShape
  pub readings : set.OrderedSet reading_cmp
  pub marks : set.OrderedSet (mark_cmp reading_cmp)

-- the checker's logic stores a shape as its four parts
abbrev pub coded_shape : Coded PictureShape
coded_shape = code_by (ℕ × (ℕ × (ℕ × List ℕ))) (coded× coded_ℕ (coded× coded_ℕ (coded× coded_ℕ (coded_list coded_ℕ))))
    (λ s. (s.precision, (s.width, (s.height, s.ids)))) (λ p. record { precision = p.0; width = p.1.0; height = p.1.1.0; ids = p.1.1.1 })
    (λ _. refl)

-- and a partial picture as its three parts
abbrev pub coded_partial : Coded PartialPicture
coded_partial = code_by (PictureShape × (set.OrderedSet reading_cmp × set.OrderedSet (mark_cmp reading_cmp)))
    (coded× coded_shape (coded× (set.code coded_reading) (set.code (coded× coded_reading coded_ℕ))))
    (λ p. (p.shape, (p.readings, p.marks))) (λ q. record { shape = q.0; readings = q.1.0; marks = q.1.1 }) (λ _. refl)

-- these readings, none of which has a source
abbrev pub without_sources : PictureShape → set.OrderedSet reading_cmp → PartialPicture
without_sources shape readings = record { shape = shape; readings = readings; marks = set.empty }

-- no reading
abbrev pub nothing_known : PictureShape → PartialPicture
nothing_known shape = without_sources shape set.empty

-- whether these samples are held as a reading of that line
abbrev pub holds : PartialPicture → ℕ → ℕ → List ℕ → Bool
holds p component line samples = set.contains p.readings (reading_of component line samples)

-- with one reading more, which has no source unless it had one
abbrev pub with_reading : PartialPicture → ℕ → ℕ → List ℕ → PartialPicture
with_reading p component line samples =
    record { shape = p.shape; readings = set.insert p.readings (reading_of component line samples); marks = p.marks }

-- with all of these readings and their source numbers
abbrev pub with_all : PartialPicture → List (Reading × List ℕ) → PartialPicture
with_all p ks =
    record { shape = p.shape; readings = set.insert_all p.readings (map (λ k. k.0) ks); marks = set.insert_all p.marks (marks_of ks) }

-- with one source number more at each of these readings, held or not, and nothing else
abbrev pub with_marks : PartialPicture → ℕ → List Reading → PartialPicture
with_marks p source rs = record { shape = p.shape; readings = p.readings; marks = set.insert_all p.marks (map (λ r. (r, source)) rs) }

-- with one source number more at each reading that is held
abbrev pub with_source : PartialPicture → ℕ → PartialPicture
with_source p source = with_marks p source (set.items p.readings)

-- what either of two of one shape holds
abbrev pub union : PartialPicture → PartialPicture → PartialPicture
union p q = record { shape = p.shape; readings = set.union p.readings q.readings; marks = set.union p.marks q.marks }

-- whether two are of one shape, and so can be joined
abbrev pub has_same_shape : PartialPicture → PartialPicture → Bool
has_same_shape p q = same_shape p.shape q.shape

-- the sample lists held of one line, in ascending order
abbrev pub readings_at : PartialPicture → ℕ → ℕ → List (List ℕ)
readings_at p component line = map (λ r. r.samples) (filter (λ r. r.component == component && r.line == line) (set.items p.readings))

-- each reading that is held fits the shape
abbrev pub IsFitting : PartialPicture → Type 0
IsFitting p = (component line : ℕ) (samples : List ℕ)
    → holds p component line samples ≡ true → reading_fault p.shape component line samples ≡ None

-- each line has fewer than 2^64 readings, so that their number fits into eight bytes
abbrev pub IsCountable : PartialPicture → Type 0
IsCountable p = (component line : ℕ) → length (readings_at p component line) < 2 ^ 64

-- the source numbers of a reading of a line, in ascending order
abbrev pub sources_at : PartialPicture → ℕ → ℕ → List ℕ → List ℕ
sources_at p component line samples = sources_of reading_cmp p.marks (reading_of component line samples)

-- each mark is of a reading that is held
abbrev pub AreMarksHeld : PartialPicture → Type 0
AreMarksHeld p = (r : Reading) (source : ℕ) → set.contains p.marks (r, source) ≡ true → set.contains p.readings r ≡ true

-- each source number has 32 bits
abbrev pub AreSourcesSmall : PartialPicture → Type 0
AreSourcesSmall p = (r : Reading) (source : ℕ) → set.contains p.marks (r, source) ≡ true → source < 2 ^ 32
