-- What calls came to holds exactly what the copies give that they read for it.
use Rattle.std.specs.Prelude.{ℕ, List, ◌++◌, map, Some}
use Rattle.jls_partial.specs.Partial.{PartialPicture, with_reading, with_source}
use Rattle.jls_partial.specs.Reading.{reading_of}
use Rattle.jls_partial.specs.Text.{IsTextOf}
use Rattle.jls_headline.specs.Stations.{ReadingsOf, HoldsExactly}
use Rattle.jls_headline.specs.Sources.{SourcedCopy, sourced_copy, copies_of, HoldsExactlyUnder}
use Rattle.jls_headline.specs.Collected.{HoldsPrefix, CollectedFrom, CollectedUnder}

-- Whatever calls collected from copies holds exactly the readings that these copies give
abbrev pub CollectedHoldsExactly : Type 0
CollectedHoldsExactly = (p : PartialPicture) (copies : List SourcedCopy) → CollectedFrom p copies → HoldsExactly p (copies_of copies)

-- each with exactly the sources under which a copy was read that gives it
abbrev pub CollectedHoldsExactlyUnder : Type 0
CollectedHoldsExactlyUnder = (p : PartialPicture) (copies : List SourcedCopy) → CollectedUnder p copies → HoldsExactlyUnder p copies

-- these copies, each read once more under a source
abbrev pub read_again : ℕ → List SourcedCopy → List SourcedCopy
read_again source copies = map (λ copy. sourced_copy (Some source) copy.bytes) copies

-- A later `Partial::mark` of what was collected leaves the copies whose readings it holds
abbrev pub MarksKeepTheCopies : Type 0
MarksKeepTheCopies =
    (p : PartialPicture) (copies : List SourcedCopy) (source : ℕ) → CollectedFrom p copies → CollectedFrom (with_source p source) copies

-- and with their sources it is as if each of these copies had been read once more under its source
abbrev pub MarksReadAgain : Type 0
MarksReadAgain =
    (p : PartialPicture) (copies : List SourcedCopy) (source : ℕ) → CollectedUnder p copies
    → CollectedUnder (with_source p source) (copies ++ read_again source copies)

-- A later `Partial::insert` of a reading that the copies give leaves what was collected, and its sources
abbrev pub InsertsKeepTheCopies : Type 0
InsertsKeepTheCopies =
    (p : PartialPicture) (copies : List SourcedCopy) (component line : ℕ) (samples : List ℕ)
    → ReadingsOf (copies_of copies) (reading_of component line samples)
    → (CollectedFrom p copies → CollectedFrom (with_reading p component line samples) copies)
    × (CollectedUnder p copies → CollectedUnder (with_reading p component line samples) copies)

-- each entry that stands in the prefix of a text is held by the partial picture of the whole text
abbrev pub CutTextsAreHeld : Type 0
CutTextsAreHeld = (p : PartialPicture) (prefix following : List ℕ) → IsTextOf (prefix ++ following) p → HoldsPrefix p prefix
