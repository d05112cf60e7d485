-- What an encoder carries and has written between two events, against the earlier events of its interval.
use Rattle.std.specs.Prelude.{◌≡◌, ℕ, Bool, List, ◌++◌, length, take}
use Rattle.jls_values.specs.Params.{CodingParameters}
use Rattle.jls_context.specs.Variables.{Variables}
use Rattle.jls_interval.specs.Events.{Event, Above, Stretch, neighbours, stretch, line_events, events_from, events}
use Rattle.jls_interval.specs.Place.{above_of}
use Rattle.jls_interval.specs.declared.place.Place.{Place}
use Rattle.jls_context.specs.declared.mode.Neighbours.{Neighbours}
use Rattle.jls_interval.specs.Code.{bits_of_events, code}
use Rattle.jls_interval.specs.After.{IsAfter}
use Rattle.jls_interval.specs.declared.encoder.Encoder.{Encoder}

-- the variables of the contexts, RUNindex of each component, and the bits written so far
pub record Written : Type 0 where
  pub cells : Variables
  pub run_indices : List ℕ
  pub written : List Bool

-- those of an encoder
abbrev pub written_by : Encoder → Written
written_by encoder =
    record { cells = encoder.coder.cells; run_indices = encoder.coder.run_indices; written = encoder.writer }

-- from one state to the other the bits of these events were written, whatever the earlier events
pub record Writes (p : CodingParameters) (old new : Written) (later : List Event) : Type 0 where
  pub is_after : (earlier : List Event) → IsAfter p old.cells old.run_indices earlier → IsAfter p new.cells new.run_indices (earlier
      ++ later)
  pub bits_are : (earlier : List Event) → IsAfter p old.cells old.run_indices earlier → new.written ≡ old.written
      ++ bits_of_events p earlier later

-- from one state to the other the columns of a line from column x to before column `next` were written
pub record WritesColumns (p : CodingParameters) (component : ℕ) (up : Above) (line : List ℕ) (x next : ℕ) (old new : Written) : Type 0 where
  pub first : List Event
  pub writes : Writes p old new first
  pub parted : let w = length line in let at = stretch w component up line in events_from at w w x ≡ first ++ events_from at w w next

-- the lines before line j were written, from the start of an interval
pub record AreWritten (p : CodingParameters) (width components : ℕ) (lines : List (List ℕ)) (j : ℕ) (now : Written) : Type 0 where
  pub is_after : IsAfter p now.cells now.run_indices (events width components (take j lines))
  pub bits_are : now.written ≡ code p width components (take j lines)

-- Names that contracts of encoders share -----------------------------------------------------------------------------

-- an encoder wrote the bits of these events
abbrev pub WroteEvents : Encoder → Encoder → List Event → Type 0
WroteEvents old new = Writes old.coder.cells.parameters (written_by old) (written_by new)

-- it has written the lines before line j
abbrev pub HasWritten : Encoder → ℕ → ℕ → List (List ℕ) → ℕ → Type 0
HasWritten encoder width components lines j = AreWritten encoder.coder.cells.parameters width components lines j (written_by encoder)

-- and those columns of a line at its place
abbrev pub WroteColumns : Place → List ℕ → ℕ → ℕ → Encoder → Encoder → Type 0
WroteColumns place line x next old new =
    WritesColumns old.coder.cells.parameters place.component (above_of place) line x next (written_by old) (written_by new)

-- the events of a line at its place
abbrev pub events_at : Place → List ℕ → List Event
events_at place line = line_events (length line) place.component (above_of place) line

-- the stretch of that line that begins at column x
abbrev pub stretch_at : Place → List ℕ → ℕ → Stretch
stretch_at place line = stretch (length line) place.component (above_of place) line

-- the neighbours there
abbrev pub near_at : Place → List ℕ → ℕ → Neighbours
near_at place line = neighbours (length line) (above_of place) line
