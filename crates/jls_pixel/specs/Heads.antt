-- Heads: the rows that stand whole at the start of bits that break off inside the code of some rows. That they are to count as readings
-- where the input ends is this project's choice. A head ends at a whole row, never inside one. A row can have a single bit.
use Rattle.std.specs.Prelude.{◌≡◌, ℕ, ◌<◌, ◌≤◌, ◌↔◌, true, false, ◌⊎◌, Bool, List, [], ◌∷◌, ◌++◌, length}
use Rattle.jls_values.specs.Params.{AreCodingParameters}
use Rattle.jls_bits.specs.Bits.{bits_read, is_whole}
use Rattle.jls_interval.specs.Stepwise.{Leads, bits_of_steps}
use Rattle.jls_pixel.specs.Pixels.{PixelShape, AreRows}
use Rattle.jls_pixel.specs.Events.{Event}
use Rattle.jls_pixel.specs.Code.{event_bits, pixel_code}
use Rattle.jls_pixel.specs.Reads.{Reads}
use Rattle.jls_pixel.specs.Growth.{Position, IsNext, pixel_steps, start}

-- bits that are a proper prefix of the code of some rows
pub record IsCutCode (i : PixelShape) (given : List Bool) : Type 0 where
  pub rows : List (List (List ℕ))
  pub are_rows : AreRows i.params i.width i.components i.row_count rows
  pub missing : Bool
  pub more_missing : List Bool
  pub code_is : given ++ missing ∷ more_missing ≡ pixel_code i.params i.width i.components rows

-- bits that are those of whole first events, then a proper prefix of the bits of one event that can come next. The prefix may be empty
pub record IsCutEvent (i : PixelShape) (given : List Bool) : Type 0 where
  pub whole : List Event
  pub position : Position
  pub leads : Leads (pixel_steps i.params i.width i.components i.row_count) start whole position
  pub cut : Event
  pub is_next : IsNext i.params i.width i.components i.row_count position cut
  pub begun : List Bool
  pub given_is : given ≡ bits_of_steps (pixel_steps i.params i.width i.components i.row_count) start whole ++ begun
  pub missing : Bool
  pub more_missing : List Bool
  pub bits_are : event_bits i.params position.earlier cut ≡ begun ++ missing ∷ more_missing

-- these are the first of the rows, and the bits begin with their code
pub record BeginsWithFirst (i : PixelShape) (given : List Bool) (rows first : List (List (List ℕ))) : Type 0 where
  pub others : List (List (List ℕ))
  pub rows_are : rows ≡ first ++ others
  pub unread : List Bool
  pub given_is : given ≡ pixel_code i.params i.width i.components first ++ unread

-- the longest list of first rows with whose code the bits begin
pub record AreWholeRows (i : PixelShape) (given : List Bool) (rows whole : List (List (List ℕ))) : Type 0 where
  pub begins : BeginsWithFirst i given rows whole
  pub longest : (first : List (List (List ℕ))) → BeginsWithFirst i given rows first → length first ≤ length whole

-- the head of bits, where the rows of an interval are to come. If they are a proper prefix of the code of some rows, it is those of these
-- rows that are complete. Else it is empty
abbrev pub IsHead : PixelShape → List Bool → List (List (List ℕ)) → Type 0
IsHead i given head =
    ((cut : IsCutCode i given) × AreWholeRows i given cut.rows head) ⊎ ((IsCutCode i given → ⊥) × (head ≡ []))

-- the head of bytes: that of their data bits. Bytes in which one of 0x80 or more follows 0xFF have no data bits, and an empty head
abbrev pub IsHeadOfPiece : PixelShape → List ℕ → List (List (List ℕ)) → Type 0
IsHeadOfPiece i piece head =
    ((is_whole piece ≡ true) × IsHead i (bits_read piece) head) ⊎ ((is_whole piece ≡ false) × (head ≡ []))

-- Laws ----------------------------------------------------------------------------------------------

-- bits are a proper prefix of the code of some rows if and only if they cut an event
abbrev pub CutsAreExact : Type 0
CutsAreExact =
    (i : PixelShape) → 0 < i.width → (given : List Bool) → IsCutCode i given ↔ IsCutEvent i given

-- bits have at most one head
abbrev pub HeadsAreOne : Type 0
HeadsAreOne =
    (i : PixelShape) → AreCodingParameters i.params → 0 < i.width
    → (given : List Bool) (xs ys : List (List (List ℕ))) → IsHead i given xs → IsHead i given ys → xs ≡ ys

-- if the bits cut an event, the head is the rows that were finished before it
abbrev pub HeadsAreFinishedRows : Type 0
HeadsAreFinishedRows =
    (i : PixelShape) → 0 < i.width → (given : List Bool) (cut : IsCutEvent i given) → IsHead i given cut.position.rows

-- a piece that reads has an empty head
abbrev pub ReadPiecesHaveNone : Type 0
ReadPiecesHaveNone =
    (i : PixelShape) → AreCodingParameters i.params → 0 < i.width
    → (piece : List ℕ) (rows head : List (List (List ℕ))) → Reads i piece rows → IsHeadOfPiece i piece head → head ≡ []
