-- What copies give, when two lists of bytes are one copy, and what a partial picture holds of copies.
use Rattle.std.specs.Prelude.{◌≡◌, ℕ, true, List, ◌⊎◌, ◌↔◌}
use Rattle.std.specs.List.{AllByRecursion, Contains}
use Rattle.jls_values.specs.OrderedSet as set
use Rattle.jls_values.specs.Shape.{PictureShape}
use Rattle.jls_partial.specs.Reading.{Reading}
use Rattle.jls_partial.specs.Partial.{PartialPicture}
use Rattle.jls_copy_laws.specs.CopyScans.{ScanWithData, HasScans}
use Rattle.jls_copy_laws.specs.Gives.{GivesReading}

-- Exactly the readings of copies -------------------------------------------------------------------------------

-- what one of these copies gives
abbrev pub ReadingsOf : List (List ℕ) → Reading → Type 0
ReadingsOf copies r = (copy : List ℕ) × Contains copies copy × GivesReading copy r

-- the copy is a list of bytes with a frame of this shape
abbrev pub HasShape : PictureShape → List ℕ → Type 0
HasShape shape copy = (scans : List ScanWithData) × HasScans copy shape scans

-- the copies have a frame of the station's shape, and it holds exactly the readings that they give, from whatever source
pub record HoldsExactly (p : PartialPicture) (copies : List (List ℕ)) : Type 0 where
  pub are_copies : AllByRecursion (HasShape p.shape) copies
  pub readings : (r : Reading) → (set.contains p.readings r ≡ true) ↔ ReadingsOf copies r

-- The same copies ----------------------------------------------------------------------------------------------

-- each of the first list is the same as some of the second
abbrev pub AreAmong : {C : Type 0} → (C → C → Type 0) → List C → List C → Type 0
AreAmong {C} IsSame copies others = (copy : C) → Contains copies copy → (other : C) × Contains others other × IsSame copy other

-- so both ways: the two lists have the same ones, whatever their order and however often each stands there
abbrev pub AreSame : {C : Type 0} → (C → C → Type 0) → List C → List C → Type 0
AreSame IsSame copies others = AreAmong IsSame copies others × AreAmong IsSame others copies

-- Two lists of bytes are the same copy if they are equal. They also are if they have one shape and the same scans, as where only comments,
-- fill bytes or bytes after the end differ
abbrev pub IsSameCopy : List ℕ → List ℕ → Type 0
IsSameCopy copy other =
    (copy ≡ other) ⊎ ((shape : PictureShape) × (scans : List ScanWithData) × HasScans copy shape scans × HasScans other shape scans)

-- the same copies
abbrev pub SameCopies : List (List ℕ) → List (List ℕ) → Type 0
SameCopies copies others = AreSame IsSameCopy copies others
