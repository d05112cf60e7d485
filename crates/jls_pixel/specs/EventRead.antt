-- What a decoder keeps and has read, against the earlier events of its interval.
use Rattle.std.specs.Prelude.{◌≡◌, ℕ, Bool, List, [], ◌∷◌, ◌++◌}
use Rattle.jls_values.specs.Params.{CodingParameters}
use Rattle.jls_context.specs.Variables.{Variables}
use Rattle.jls_pixel.specs.Pixels.{RowsAbove, pixel_neighbours, run_value}
use Rattle.jls_pixel.specs.Events.{Event}
use Rattle.jls_pixel.specs.Code.{event_bits}
use Rattle.jls_pixel.specs.Growth.{Fits, added}
use Rattle.jls_pixel.specs.After.{IsAfter}

-- an event was read from the start of the bits, and the row grew by its pixels
pub record EventRead (p : CodingParameters) (width components : ℕ) (up : RowsAbove) (row row' : List (List ℕ)) (cells' : Variables)
    (run_index' : ℕ) (given unread : List Bool) (earlier : List Event) : Type 0 where
  pub event : Event
  pub fits : Fits p width components up row (pixel_neighbours width up row components) event
  pub row_is : row' ≡ row ++ added (run_value (pixel_neighbours width up row components)) event
  pub is_after : IsAfter p cells' run_index' (earlier ++ event ∷ [])
  pub bits_are : given ≡ event_bits p earlier event ++ unread

-- no event that can come next stands at the start of the bits
abbrev pub NoEvent : CodingParameters → ℕ → ℕ → RowsAbove → List (List ℕ) → List Bool → List Event → Type 0
NoEvent p width components up row given earlier =
    (event : Event) (rest : List Bool) → Fits p width components up row (pixel_neighbours width up row components) event
    → given ≡ event_bits p earlier event ++ rest → ⊥

-- an event was read, after whatever earlier events leave what the decoder keeps
abbrev pub ReadsEvent : CodingParameters → ℕ → ℕ → RowsAbove → List (List ℕ) → List (List ℕ) → Variables → Variables → ℕ → ℕ → List Bool
    → List Bool → Type 0
ReadsEvent p width components up row row' cells cells' run_index run_index' given unread =
    (earlier : List Event) → IsAfter p cells run_index earlier
    → EventRead p width components up row row' cells' run_index' given unread earlier

-- no event can be read, after whatever earlier events leave what the decoder keeps
abbrev pub RefusesEvent : CodingParameters → ℕ → ℕ → RowsAbove → List (List ℕ) → Variables → ℕ → List Bool → Type 0
RefusesEvent p width components up row cells run_index given =
    (earlier : List Event) → IsAfter p cells run_index earlier → NoEvent p width components up row given earlier
