-- Heads: the lines that stand whole at the start of bits that break off inside the code of some lines. That they are to count as
-- readings where the input ends is this project's choice.
use Rattle.std.specs.Prelude.{◌≡◌, ℕ, ◌<◌, ◌≤◌, true, false, ◌⊎◌, Bool, List, [], ◌++◌, length}
use Rattle.jls_values.specs.Params.{AreCodingParameters}
use Rattle.jls_bits.specs.Bits.{bits_read, is_whole}
use Rattle.jls_interval.specs.Lines.{IntervalShape}
use Rattle.jls_interval.specs.Code.{code}
use Rattle.jls_interval.specs.Reads.{Reads}
use Rattle.jls_interval.specs.Laws.{IsCutCode, IsCutEvent}

-- these are the first of the lines, and the bits begin with their code
pub record BeginsWithFirst (i : IntervalShape) (given : List Bool) (lines first : List (List ℕ)) : Type 0 where
  pub others : List (List ℕ)
  pub lines_are : lines ≡ first ++ others
  pub unread : List Bool
  pub given_is : given ≡ code i.params i.width i.components first ++ unread

-- the longest list of first lines with whose code the bits begin
pub record AreWholeLines (i : IntervalShape) (given : List Bool) (lines whole : List (List ℕ)) : Type 0 where
  pub begins : BeginsWithFirst i given lines whole
  pub longest : (first : List (List ℕ)) → BeginsWithFirst i given lines first → length first ≤ length whole

-- the head of bits, where the lines of an interval are to come. If they are a proper prefix of the code of some lines, it is those of these
-- lines that are complete. Else it is empty
abbrev pub IsHead : IntervalShape → List Bool → List (List ℕ) → Type 0
IsHead i given head =
    ((cut : IsCutCode i given) × AreWholeLines i given cut.lines head) ⊎ ((IsCutCode i given → ⊥) × (head ≡ []))

-- the head of bytes: that of their data bits. Bytes in which one of 0x80 or more follows 0xFF have no data bits, and an empty head
abbrev pub IsHeadOfPiece : IntervalShape → List ℕ → List (List ℕ) → Type 0
IsHeadOfPiece i piece head =
    ((is_whole piece ≡ true) × IsHead i (bits_read piece) head) ⊎ ((is_whole piece ≡ false) × (head ≡ []))

-- bits have at most one head
abbrev pub HeadsAreOne : Type 0
HeadsAreOne =
    (i : IntervalShape) → AreCodingParameters i.params → 0 < i.width
    → (given : List Bool) (xs ys : List (List ℕ)) → IsHead i given xs → IsHead i given ys → xs ≡ ys

-- if the bits cut an event, the head is the lines that were finished before it
abbrev pub HeadsAreFinishedLines : Type 0
HeadsAreFinishedLines =
    (i : IntervalShape) → 0 < i.width → (given : List Bool) (cut : IsCutEvent i given) → IsHead i given cut.position.lines

-- a piece that reads has an empty head
abbrev pub ReadPiecesHaveNone : Type 0
ReadPiecesHaveNone =
    (i : IntervalShape) → AreCodingParameters i.params → 0 < i.width
    → (piece : List ℕ) (lines head : List (List ℕ)) → Reads i piece lines → IsHeadOfPiece i piece head → head ≡ []
