-- Entries: the lines that have a reading, each with what was read of it.
use Rattle.std.specs.Prelude.{ℕ, List, map}
use Rattle.std.specs.List.{flat_map}
use Rattle.jls_values.specs.Shape.{PictureShape}
use Rattle.jls_partial.specs.declared.line_place.LinePlace.{LinePlace}
use Rattle.jls_partial.specs.Packed.{Kept}
use Rattle.jls_partial.specs.Partial.{PartialPicture, nothing_known, with_all}
use Rattle.jls_partial.specs.Reading.{Reading, reading_of}

-- the place of a line, and what was read of it: lists of samples, each with its source numbers
abbrev pub Entry : Type 0
Entry = LinePlace × List Kept

-- the same without the source numbers
abbrev pub BareEntry : Type 0
BareEntry = LinePlace × List (List ℕ)

-- an entry without the source numbers
abbrev pub bare : Entry → BareEntry
bare e = (e.0, map (λ k. k.0) e.1)

-- the reading of these samples at a place
abbrev pub at_place : LinePlace → List ℕ → Reading
at_place at samples = reading_of at.component at.line samples

-- the reading of samples with source numbers at a place
abbrev pub kept_at_place : LinePlace → Kept → Reading × List ℕ
kept_at_place at k = (at_place at k.0, k.1)

-- all that the entries hold, entry by entry
abbrev pub readings_of_entries : List BareEntry → List Reading
readings_of_entries entries = flat_map (λ e. map (at_place e.0) e.1) entries

-- the readings of entries, each with its source numbers
abbrev pub kept_readings : List Entry → List (Reading × List ℕ)
kept_readings entries = flat_map (λ e. map (kept_at_place e.0) e.1) entries

-- the partial picture of a shape and entries
abbrev pub partial_of : PictureShape → List Entry → PartialPicture
partial_of shape entries = with_all (nothing_known shape) (kept_readings entries)
