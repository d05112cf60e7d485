-- Copies under sources, and which sources the readings of a partial picture have.
use Rattle.std.specs.Prelude.{◌≡◌, ℕ, true, List, map, Option, Some, ◌↔◌}
use Rattle.std.specs.List.{Contains}
use Rattle.jls_values.specs.OrderedSet as set
use Rattle.jls_partial.specs.Reading.{Reading}
use Rattle.jls_partial.specs.Partial.{PartialPicture}
use Rattle.jls_copy_laws.specs.Gives.{GivesReading}
use Rattle.jls_headline.specs.Stations.{HoldsExactly, AreSame, IsSameCopy}

-- a copy, and the source that it was read under, where there is one
pub record SourcedCopy : Type 0 where
  pub source : Option ℕ
  pub bytes : List ℕ

-- the copy of these bytes, under this source
abbrev pub sourced_copy : Option ℕ → List ℕ → SourcedCopy
sourced_copy source bytes = record { source = source; bytes = bytes }

-- the copies alone
abbrev pub copies_of : List SourcedCopy → List (List ℕ)
copies_of copies = map (λ copy. copy.bytes) copies

-- the copy gives the reading, and was read under this source
abbrev pub GivesUnder : SourcedCopy → Reading → ℕ → Type 0
GivesUnder copy r source = (copy.source ≡ Some source) × GivesReading copy.bytes r

-- some of these copies gives the reading under this source
abbrev pub SourcesOf : List SourcedCopy → Reading → ℕ → Type 0
SourcesOf copies r source = (copy : SourcedCopy) × Contains copies copy × GivesUnder copy r source

-- it holds exactly the readings of the copies, each with exactly the sources of those copies that give it
pub record HoldsExactlyUnder (p : PartialPicture) (copies : List SourcedCopy) : Type 0 where
  pub readings : HoldsExactly p (copies_of copies)
  pub sources : (r : Reading) (source : ℕ) → (set.contains p.marks (r, source) ≡ true) ↔ SourcesOf copies r source

-- the same copy, under the same source
abbrev pub IsSameUnder : SourcedCopy → SourcedCopy → Type 0
IsSameUnder copy other = (copy.source ≡ other.source) × IsSameCopy copy.bytes other.bytes

-- the same copies under the same sources
abbrev pub SameCopiesUnder : List SourcedCopy → List SourcedCopy → Type 0
SameCopiesUnder copies others = AreSame IsSameUnder copies others
