-- Partial pictures of one picture: what damaged copies of it give, and what their join then is.
use Rattle.std.specs.Prelude.{◌≡◌, ℕ, ◌<◌, ◌↔◌, true, List, [], ◌∷◌, length, All, Contains}
use Rattle.jls_values.specs.OrderedSet as set
use Rattle.jls_values.specs.Shape.{PictureShape}
use Rattle.jls_values.specs.Join.{join_all}
use Rattle.jls_partial.specs.Partial.{PartialPicture, holds, readings_at, union, IsFitting}
use Rattle.jls_partial.specs.Marks.{mark_cmp}
use Rattle.jls_partial.specs.Reading.{reading_cmp}
use Rattle.jls_partial.specs.Status.{IsSettled}

-- a partial picture has the shape of another, and each of its readings is one of that one's. The sources of the readings may be any
pub record IsPartOf (picture part : PartialPicture) : Type 0 where
  pub shape : part.shape ≡ picture.shape
  pub readings : (component line : ℕ) (samples : List ℕ)
      → holds part component line samples ≡ true → holds picture component line samples ≡ true

-- one of these partial pictures has a reading of the line
abbrev pub IsLineHeld : List PartialPicture → ℕ → ℕ → Type 0
IsLineHeld parts component line = (part : PartialPicture) × Contains parts part × (readings_at part component line ≡ [] → ⊥)

-- of each line of a shape one of these partial pictures has a reading
abbrev pub EachLineIsHeld : PictureShape → List PartialPicture → Type 0
EachLineIsHeld shape parts =
    (component : ℕ) → component < length shape.ids → (line : ℕ) → line < shape.height → IsLineHeld parts component line

-- a join holds the readings that any of its members holds, and no others
abbrev pub JoinsHoldExactly : Type 0
JoinsHoldExactly =
    (first : PartialPicture) (others : List PartialPicture) (component line : ℕ) (samples : List ℕ)
    → (holds (join_all union first others) component line samples ≡ true)
    ↔ ((member : PartialPicture) × Contains (first ∷ others) member × (holds member component line samples ≡ true))

-- the marks of all of these
abbrev pub all_marks : List PartialPicture → set.OrderedSet (mark_cmp reading_cmp)
all_marks [] = set.empty
all_marks (p ∷ ps) = set.union p.marks (all_marks ps)

-- a join has the marks of all of its members, and no others
abbrev pub JoinsHoldAllMarks : Type 0
JoinsHoldAllMarks = (first : PartialPicture) (others : List PartialPicture) → (join_all union first others).marks
    ≡ all_marks (first ∷ others)

-- the picture, with the sources that these give its readings
abbrev pub sourced : List PartialPicture → PartialPicture → PartialPicture
sourced parts picture = record { shape = picture.shape; readings = picture.readings; marks = all_marks parts }

-- if some part of a settled picture, whose readings fit it, holds each of its lines, the parts join to that picture, with the sources of
-- all parts
abbrev pub PartsGiveThePicture : Type 0
PartsGiveThePicture =
    (picture : PartialPicture) → IsFitting picture → IsSettled picture
    → (first : PartialPicture) (others : List PartialPicture)
    → All (IsPartOf picture) (first ∷ others) → EachLineIsHeld picture.shape (first ∷ others)
    → join_all union first others ≡ sourced (first ∷ others) picture
