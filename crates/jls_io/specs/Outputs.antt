-- How a program hands out what it made.
use Rattle.std.specs.Prelude.{◌≡◌, ℕ, List, ◌∷◌}
use Rattle.jls_io.specs.Event.{Event, created}
use Rattle.jls_io.specs.Writing.{Wrote}

-- an output was created by this name and handed exactly these bytes
pub record HandsOut (name bytes : List ℕ) (events : List Event) : Type 0 where
  pub writes : List Event
  pub events_are : events ≡ created name ∷ writes
  pub wrote : Wrote bytes writes
