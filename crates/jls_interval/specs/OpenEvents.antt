-- An event that is read a few bits at a time: which bits were fed since the last whole event, and what more of them make of it.
use Rattle.std.specs.Prelude.{◌≡◌, ℕ, ◌+◌, ◌-◌, ◌≤◌, Bool, true, false, List, [], ◌∷◌, ◌++◌, length, replicate, get_or}
use Rattle.jls_values.specs.Params.{CodingParameters, qbpp, limit}
use Rattle.jls_context.specs.declared.mode.Neighbours.{Neighbours}
use Rattle.jls_context.specs.Mode.{is_run_mode, context}
use Rattle.jls_context.specs.Regular.{regular_k}
use Rattle.jls_context.specs.Interruption.{run_k}
use Rattle.jls_context.specs.Variables.{Variables, cell_at, run_cell_at}
use Rattle.jls_bits.specs.CodeState.{IsOpen, bits_fed}
use Rattle.jls_interval.specs.Events.{Event, Above, neighbours}
use Rattle.jls_interval.specs.Cells.{is_same}
use Rattle.jls_interval.specs.Runs.{run_order}
use Rattle.jls_interval.specs.Code.{event_bits}
use Rattle.jls_interval.specs.Growth.{Fits, added}
use Rattle.jls_interval.specs.After.{IsAfter}
use Rattle.jls_interval.specs.RunState.{IsRunState, RunIs, RunAt}
use Rattle.jls_interval.specs.declared.run_reader.Run.TheVariants.{Interrupted}
use Rattle.jls_interval.specs.declared.line_reader.OpenEvent.{OpenEvent}
use Rattle.jls_interval.specs.declared.line_reader.OpenEvent.TheVariants.{NotBegun, Sample, InRun, Interruption}
use Rattle.jls_interval.specs.declared.line_reader.LineReader.{LineReader}
use Rattle.jls_interval.specs.declared.line_reader.EventStep.{EventStep}
use Rattle.jls_interval.specs.declared.line_reader.EventStep.TheVariants.{More, Moved, Refused}

-- the neighbours of the next column
abbrev pub now_at : ℕ → Above → List ℕ → Neighbours
now_at w up line = neighbours w up line (length line)

-- the neighbours of the column after a run of so many
abbrev pub following : ℕ → Above → List ℕ → ℕ → Neighbours
following w up line count = neighbours w up (line ++ replicate count (now_at w up line).ra) (length line + count)

-- since the last whole event the machine in hand was fed these bits, and no event is whole
abbrev pub OpenEventAt : CodingParameters → ℕ → Above → List ℕ → Variables → ℕ → OpenEvent → List Bool → Type 0
OpenEventAt p w up line cells r NotBegun fed = fed ≡ []
OpenEventAt p w up line cells r (Sample code) fed =
    (is_run_mode (now_at w up line) ≡ false) × IsOpen (regular_k (cell_at cells (context p (now_at w up line)))) (limit p) (qbpp p) code
    × (fed ≡ bits_fed (limit p) (qbpp p) code)
OpenEventAt p w up line cells r (InRun state) fed =
    (is_run_mode (now_at w up line) ≡ true) × IsRunState (w - length line) state × RunAt r (w - length line) fed state
OpenEventAt p w up line cells r (Interruption i) fed =
    (is_run_mode (now_at w up line) ≡ true) × (i.run_index ≤ 31)
    × IsOpen (run_k (is_same (following w up line i.count)) (run_cell_at cells (is_same (following w up line i.count))))
    (limit p - run_order i.run_index - 1) (qbpp p) i.code
    × RunIs r (w - length line) fed (bits_fed (limit p - run_order i.run_index - 1) (qbpp p) i.code) (Interrupted i.count i.run_index)

-- the same of what a reader holds, in a line of a component
abbrev pub Holds : ℕ → Above → LineReader → List Bool → Type 0
Holds component up reader fed =
    OpenEventAt reader.coder.cells.parameters reader.width up reader.line.items reader.coder.cells
    (get_or reader.coder.run_indices component 0) reader.open_event fed

-- no event that can come next stands at the start of the bits
abbrev pub NoEvent : CodingParameters → ℕ → ℕ → Above → List ℕ → List Bool → List Event → Type 0
NoEvent p w component up line given earlier =
    (event : Event) (rest : List Bool) → Fits p w component up line (now_at w up line) event → given ≡ event_bits p earlier event ++ rest
    → ⊥

-- the bits are an event's that can come next, the line grew by its samples, and these are the variables and RUNindices after it
pub record EventDone (p : CodingParameters) (w component : ℕ) (up : Above) (line line' : List ℕ) (cells' : Variables)
    (run_indices' : List ℕ) (fed : List Bool) (earlier : List Event) : Type 0 where
  pub event : Event
  pub fits : Fits p w component up line (now_at w up line) event
  pub line_is : line' ≡ line ++ added (now_at w up line).ra event
  pub is_after : IsAfter p cells' run_indices' (earlier ++ event ∷ [])
  pub bits_are : fed ≡ event_bits p earlier event

-- what a step says of the bits fed: the line stays until the event is whole
abbrev pub EventStepIs : ℕ → Above → LineReader → LineReader → List Bool → List Event → EventStep → Type 0
EventStepIs component up old new fed earlier More =
    (new.line.items ≡ old.line.items) × (new.coder.cells ≡ old.coder.cells) × (new.coder.run_indices ≡ old.coder.run_indices)
    × OpenEventAt old.coder.cells.parameters old.width up old.line.items old.coder.cells
    (get_or old.coder.run_indices component 0) new.open_event fed
EventStepIs component up old new fed earlier Moved =
    EventDone old.coder.cells.parameters old.width component up old.line.items new.line.items new.coder.cells new.coder.run_indices fed
    earlier × (new.open_event ≡ NotBegun)
EventStepIs component up old new fed earlier Refused =
    (new.line.items ≡ old.line.items) × ((more : List Bool) → NoEvent old.coder.cells.parameters old.width component up old.line.items (fed
    ++ more) earlier)

-- an event that isn't whole has taken all bits
abbrev pub HasTakenAll : EventStep → List Bool → Type 0
HasTakenAll More unread = unread ≡ []
HasTakenAll Moved unread = Unit {0}
HasTakenAll Refused unread = Unit {0}

-- the first bits of the chunk were taken, and the step is what the bits fed before and these make of the event
pub record EventPushed (component : ℕ) (up : Above) (old new : LineReader) (fed chunk unread : List Bool) (earlier : List Event)
    (step : EventStep) : Type 0 where
  pub taken : List Bool
  pub chunk_is : chunk ≡ taken ++ unread
  pub step_is : EventStepIs component up old new (fed ++ taken) earlier step
  pub all : HasTakenAll step unread
