-- Rows as they grow, event by event: what a decoder has read, and what can come next.
use Rattle.std.specs.Prelude.{◌≡◌, ℕ, ◌+◌, ◌<◌, true, false, ◌==◌, if◌then◌else◌, List, [], ◌∷◌, ◌++◌, length, replicate}
use Rattle.std.specs.List.{AllByRecursion}
use Rattle.jls_values.specs.Params.{CodingParameters}
use Rattle.jls_context.specs.declared.mode.Neighbours.{Neighbours}
use Rattle.jls_interval.specs.Stepwise.{StepwiseCode}
use Rattle.jls_pixel.specs.Pixels.{RowsAbove, rows_above, pixel_neighbours, is_run_pixel, run_value, IsPixel}
use Rattle.jls_pixel.specs.Events.{Event, regular_pixel, run_to_end, interrupted_run, events}
use Rattle.jls_pixel.specs.Code.{event_bits}

-- finished rows, the pixels so far of the row after them, and the events so far
pub record Position : Type 0 where
  pub rows : List (List (List ℕ))
  pub row : List (List ℕ)
  pub earlier : List Event

-- the neighbours of each component of the next pixel
abbrev pub here : ℕ → ℕ → Position → List Neighbours
here width components position = pixel_neighbours width (rows_above position.rows) position.row components

-- the pixels that an event adds to its row, if the run's value is v
abbrev pub added : List ℕ → Event → List (List ℕ)
added v (regular_pixel nears pixel) = pixel ∷ []
added v (run_to_end count) = replicate count v
added v (interrupted_run count nears pixel) = replicate count v ++ pixel ∷ []

-- an event can come next in a row that begins with these pixels, if the components of the next one have the neighbours `near`. The pixel
-- that interrupts a run differs from the run's value in at least one component (T.87 A.3.2, A.7, B.2)
abbrev pub Fits : CodingParameters → ℕ → ℕ → RowsAbove → List (List ℕ) → List Neighbours → Event → Type 0
Fits p width components up row near (regular_pixel nears pixel) =
    (is_run_pixel near ≡ false) × (nears ≡ near) × IsPixel p components pixel
Fits p width components up row near (run_to_end count) = (is_run_pixel near ≡ true) × (length row + count ≡ width)
Fits p width components up row near (interrupted_run count nears pixel) =
    (is_run_pixel near ≡ true) × (length row + count < width)
    × (nears ≡ pixel_neighbours width up (row ++ replicate count (run_value near)) components)
    × IsPixel p components pixel × (pixel ≡ run_value near → ⊥)

-- an event can come next at a position, if there are to be `count` rows
abbrev pub IsNext : CodingParameters → ℕ → ℕ → ℕ → Position → Event → Type 0
IsNext p width components count position event =
    (length position.rows < count)
    × Fits p width components (rows_above position.rows) position.row (here width components position) event

-- the position with this row begun, or among the finished rows if it is whole
abbrev pub grown : ℕ → List (List (List ℕ)) → List (List ℕ) → List Event → Position
grown width rows row earlier =
    if (length row == width) then record { rows = rows ++ row ∷ []; row = []; earlier = earlier }
    else record { rows = rows; row = row; earlier = earlier }

-- the position after an event
abbrev pub moved : ℕ → ℕ → Position → Event → Position
moved width components position event =
    grown width position.rows (position.row ++ added (run_value (here width components position)) event)
    (position.earlier ++ event ∷ [])

-- every pixel has its samples, and none is above MAXVAL
abbrev pub HasPixels : CodingParameters → ℕ → Position → Type 0
HasPixels p components position =
    AllByRecursion (AllByRecursion (IsPixel p components)) position.rows × AllByRecursion (IsPixel p components) position.row

-- the code of an interval of `count` rows, read event by event
abbrev pub pixel_steps : CodingParameters → ℕ → ℕ → ℕ → StepwiseCode
pixel_steps p width components count = record {
  State = Position;
  Event = Event;
  Sound = HasPixels p components;
  Next = IsNext p width components count;
  after = moved width components;
  step_bits = λ position event. event_bits p position.earlier event;
}

-- nothing is read
abbrev pub start : Position
start = record { rows = []; row = []; earlier = [] }

-- these rows are read
abbrev pub finish : ℕ → ℕ → List (List (List ℕ)) → Position
finish width components rows = record { rows = rows; row = []; earlier = events width components rows }
