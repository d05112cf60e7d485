-- Lines as they grow, event by event: what a decoder has read, and what can come next.
use Rattle.std.specs.Prelude.{◌≡◌, ℕ, ◌+◌, ◌%◌, ◌≤◌, ◌<◌, true, false, ◌==◌, if◌then◌else◌, List, [], ◌∷◌, ◌++◌, length, replicate}
use Rattle.std.specs.List.{AllByRecursion}
use Rattle.jls_values.specs.Params.{CodingParameters}
use Rattle.jls_context.specs.declared.mode.Neighbours.{Neighbours}
use Rattle.jls_context.specs.Mode.{is_run_mode}
use Rattle.jls_interval.specs.Events.{Event, regular, run_to_end, interrupted_run, Above, neighbours, above, events}
use Rattle.jls_interval.specs.Code.{event_bits}
use Rattle.jls_interval.specs.Stepwise.{StepwiseCode}

-- finished lines, the samples so far of the line after them, and the events so far
pub record Position : Type 0 where
  pub lines : List (List ℕ)
  pub line : List ℕ
  pub earlier : List Event

-- the neighbours of the next column
abbrev pub here : ℕ → ℕ → Position → Neighbours
here width components position = neighbours width (above components position.lines) position.line (length position.line)

-- the samples that an event adds to its line, if the run's value is v
abbrev pub added : ℕ → Event → List ℕ
added v (regular near sample) = sample ∷ []
added v (run_to_end component count) = replicate count v
added v (interrupted_run component count near sample) = replicate count v ++ sample ∷ []

-- an event can come next in a line of a component, if the next column has the neighbours `near`. Of a line that is not finished, these are
-- `IsRegular`, `IsRunToEnd` and `IsInterruptedRun`
abbrev pub Fits : CodingParameters → ℕ → ℕ → Above → List ℕ → Neighbours → Event → Type 0
Fits p width component up line near (regular n sample) =
    (is_run_mode near ≡ false) × (n ≡ near) × (sample ≤ p.maxval)
Fits p width component up line near (run_to_end of_component count) =
    (is_run_mode near ≡ true) × (of_component ≡ component) × (length line + count ≡ width)
Fits p width component up line near (interrupted_run of_component count n sample) =
    (is_run_mode near ≡ true) × (of_component ≡ component) × (length line + count < width)
    × (n ≡ neighbours width up (line ++ replicate count near.ra) (length line + count)) × (sample ≤ p.maxval) × (sample ≡ near.ra → ⊥)

-- an event can come next at a position, if there are to be `count` lines
abbrev pub IsNext : CodingParameters → ℕ → ℕ → ℕ → Position → Event → Type 0
IsNext p width components count position event =
    (length position.lines < count) × Fits p width (length position.lines % components) (above components position.lines) position.line
    (here width components position) event

-- the position with this line begun, or among the finished lines if it is whole
abbrev pub grown : ℕ → List (List ℕ) → List ℕ → List Event → Position
grown width lines line earlier =
    if (length line == width) then record { lines = lines ++ line ∷ []; line = []; earlier = earlier }
    else record { lines = lines; line = line; earlier = earlier }

-- the position after an event
abbrev pub moved : ℕ → ℕ → Position → Event → Position
moved width components position event =
    grown width position.lines (position.line ++ added (here width components position).ra event) (position.earlier ++ event ∷ [])

-- no sample is above MAXVAL
abbrev pub HasSamples : CodingParameters → Position → Type 0
HasSamples p position =
    AllByRecursion (λ line. AllByRecursion (λ sample. sample ≤ p.maxval) line) position.lines
    × AllByRecursion (λ sample. sample ≤ p.maxval) position.line

-- the code of an interval of `count` lines, read event by event
abbrev pub interval_steps : CodingParameters → ℕ → ℕ → ℕ → StepwiseCode
interval_steps p width components count = record {
  State = Position;
  Event = Event;
  Sound = HasSamples p;
  Next = IsNext p width components count;
  after = moved width components;
  step_bits = λ position event. event_bits p position.earlier event;
}

-- nothing is read
abbrev pub start : Position
start = record { lines = []; line = []; earlier = [] }

-- these lines are read
abbrev pub finish : ℕ → ℕ → List (List ℕ) → Position
finish width components lines = record { lines = lines; line = []; earlier = events width components lines }
