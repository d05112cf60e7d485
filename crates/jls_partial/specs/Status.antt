-- The status of a line: how many readings it has.
use Rattle.std.specs.Prelude.{◌≡◌, ℕ, ◌<◌, List, [], ◌∷◌, length}
use Rattle.jls_partial.specs.declared.status.Status.{Status}
use Rattle.jls_partial.specs.declared.status.Status.TheVariants.{Missing, Settled, Disputed}
use Rattle.jls_partial.specs.Partial.{PartialPicture, readings_at}

-- none, one, or several readings
abbrev pub status_of : List (List ℕ) → Status
status_of [] = Missing
status_of (first ∷ []) = Settled
status_of (first ∷ second ∷ others) = Disputed

-- each line of the component is settled
abbrev pub IsComponentSettled : PartialPicture → ℕ → Type 0
IsComponentSettled p component = (line : ℕ) → line < p.shape.height → status_of (readings_at p component line) ≡ Settled

-- each line of the picture is settled
abbrev pub IsSettled : PartialPicture → Type 0
IsSettled p = (component : ℕ) → component < length p.shape.ids → IsComponentSettled p component
