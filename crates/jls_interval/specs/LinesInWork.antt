-- A line in work at its place: names that contracts of readers share.
use Rattle.std.specs.Prelude.{◌≡◌, ℕ, ◌-◌, Bool, List, length, get_or}
use Rattle.jls_context.specs.declared.mode.Neighbours.{Neighbours}
use Rattle.jls_context.specs.declared.regular.Cell.{Cell}
use Rattle.jls_context.specs.Mode.{context}
use Rattle.jls_context.specs.Variables.{cell_at}
use Rattle.jls_interval.specs.Events.{Event}
use Rattle.jls_interval.specs.Place.{above_of}
use Rattle.jls_interval.specs.Runs.{run_order}
use Rattle.jls_interval.specs.After.{IsAfter}
use Rattle.jls_interval.specs.RunState.{RunAt, RunIs}
use Rattle.jls_interval.specs.OpenEvents.{now_at, following, Holds, EventPushed, NoEvent}
use Rattle.jls_interval.specs.CutEventsOpen.{BeginsEvent}
use Rattle.jls_interval.specs.SampleCodes.{IsInterruptingOpen, interrupting_fed}
use Rattle.jls_interval.specs.declared.place.Place.{Place}
use Rattle.jls_interval.specs.declared.run_reader.Run.TheVariants.{Interrupted}
use Rattle.jls_interval.specs.declared.run_reader.RunState.{RunState}
use Rattle.jls_interval.specs.declared.line_reader.EventStep.{EventStep}
use Rattle.jls_interval.specs.declared.line_reader.Interruption.{Interruption}
use Rattle.jls_interval.specs.declared.line_reader.LineReader.{LineReader}

-- how many columns are left
abbrev pub columns_left : LineReader → ℕ
columns_left reader = reader.width - length reader.line.items

-- the neighbours of the next column
abbrev pub near : LineReader → Place → Neighbours
near reader place = now_at reader.width (above_of place) reader.line.items

-- and of the one after a run of so many
abbrev pub near_after : LineReader → Place → ℕ → Neighbours
near_after reader place = following reader.width (above_of place) reader.line.items

-- the cell of the next column in regular mode
abbrev pub next_cell : LineReader → Place → Cell
next_cell reader place = cell_at reader.coder.cells (context reader.coder.cells.parameters (near reader place))

-- the reader stands where these events end
abbrev pub ComesAfter : LineReader → List Event → Type 0
ComesAfter reader earlier = IsAfter reader.coder.cells.parameters reader.coder.cells reader.coder.run_indices earlier

-- since the last whole event it was fed these bits
abbrev pub HoldsAt : Place → LineReader → List Bool → Type 0
HoldsAt place = Holds place.component (above_of place)

-- they are those of a run that isn't whole
abbrev pub HoldsRun : Place → LineReader → RunState → List Bool → Type 0
HoldsRun place reader state fed = RunAt (get_or reader.coder.run_indices place.component 0) (columns_left reader) fed state

-- or those of a run, and the first bits of the sample that interrupts it
abbrev pub HoldsInterruption : Place → LineReader → Interruption → List Bool → Type 0
HoldsInterruption place reader i fed =
    RunIs (get_or reader.coder.run_indices place.component 0) (columns_left reader) fed
    (interrupting_fed reader.coder (run_order i.run_index) i.code) (Interrupted i.count i.run_index)

-- these first bits are those of a code
abbrev pub IsOpenAfterRun : Place → LineReader → Interruption → Type 0
IsOpenAfterRun place reader i = IsInterruptingOpen reader.coder (near_after reader place i.count) (run_order i.run_index) i.code

-- it took more bits
abbrev pub PushedAt : Place → LineReader → LineReader → List Bool → List Bool → List Bool → List Event → EventStep → Type 0
PushedAt place = EventPushed place.component (above_of place)

-- bits begin an event that can come next
abbrev pub BeginsNext : Place → LineReader → List Bool → List Event → Type 0
BeginsNext place reader =
    BeginsEvent reader.coder.cells.parameters reader.width place.component (above_of place) reader.line.items

-- or begin with no such event
abbrev pub NoNext : Place → LineReader → List Bool → List Event → Type 0
NoNext place reader = NoEvent reader.coder.cells.parameters reader.width place.component (above_of place) reader.line.items
