-- The codes of samples, by what a coder carries: names that contracts of coders share (T.87 A.5.3, A.7.2).
use Rattle.std.specs.Prelude.{◌≡◌, ℕ, ◌-◌, ◌≤◌, Bool, List}
use Rattle.std.specs.List.{AllByRecursion}
use Rattle.jls_values.specs.Params.{CodingParameters, limit, qbpp}
use Rattle.jls_context.specs.declared.mode.Neighbours.{Neighbours}
use Rattle.jls_context.specs.declared.regular.Cell.{Cell}
use Rattle.jls_context.specs.declared.interruption.RunCell.{RunCell}
use Rattle.jls_context.specs.Mode.{IsRegularMode}
use Rattle.jls_context.specs.Regular.{regular_k}
use Rattle.jls_context.specs.Interruption.{run_k}
use Rattle.jls_context.specs.Variables.{cell_at, run_cell_at}
use Rattle.jls_bits.specs.Golomb.{golomb, has_golomb, BeginsCodeOf}
use Rattle.jls_bits.specs.CodeState.{IsOpen, bits_fed}
use Rattle.jls_bits.specs.declared.code_state.CodeState.{CodeState}
use Rattle.jls_interval.specs.Cells.{is_same}
use Rattle.jls_interval.specs.Reading.{NoSample, NoInterruption}
use Rattle.jls_interval.specs.CutEventsOpen.{BeginsSample, BeginsInterruption}
use Rattle.jls_interval.specs.declared.coder.Coder.{Coder}
use Rattle.jls_interval.specs.declared.coder.RegularMode.{RegularMode}
use Rattle.jls_interval.specs.declared.place.Place.{Place}

-- the parameters of the scan
abbrev pub parameters_of : Coder → CodingParameters
parameters_of coder = coder.cells.parameters

-- the samples in the line above are at most MAXVAL
abbrev pub IsAboveInRange : Coder → Place → Type 0
IsAboveInRange coder place = AllByRecursion (λ s. s ≤ coder.cells.parameters.maxval) place.line_above.now

-- so are samples
abbrev pub AreInRange : Coder → List ℕ → Type 0
AreInRange coder samples = AllByRecursion (λ s. s ≤ coder.cells.parameters.maxval) samples

-- a sample with these neighbours is coded in this regular mode
abbrev pub IsModeAt : Coder → Neighbours → RegularMode → Type 0
IsModeAt coder near mode = IsRegularMode coder.cells.parameters near mode.context mode.negative

-- the cell of regular mode
abbrev pub regular_cell : Coder → RegularMode → Cell
regular_cell coder mode = cell_at coder.cells mode.context

-- the code of a number in regular mode
abbrev pub regular_code : Coder → RegularMode → ℕ → List Bool
regular_code coder mode =
    golomb (regular_k (cell_at coder.cells mode.context)) (limit coder.cells.parameters) (qbpp coder.cells.parameters)

-- whether there is one
abbrev pub has_regular_code : Coder → RegularMode → ℕ → Bool
has_regular_code coder mode =
    has_golomb (regular_k (cell_at coder.cells mode.context)) (limit coder.cells.parameters) (qbpp coder.cells.parameters)

-- and bits that it begins with
abbrev pub BeginsRegularCode : Coder → RegularMode → List Bool → ℕ → Type 0
BeginsRegularCode coder mode =
    BeginsCodeOf (regular_k (cell_at coder.cells mode.context)) (limit coder.cells.parameters) (qbpp coder.cells.parameters)

-- the first bits of such a code, and no whole code
abbrev pub IsRegularOpen : Coder → RegularMode → CodeState → Type 0
IsRegularOpen coder mode =
    IsOpen (regular_k (cell_at coder.cells mode.context)) (limit coder.cells.parameters) (qbpp coder.cells.parameters)

-- these bits
abbrev pub regular_fed : Coder → CodeState → List Bool
regular_fed coder = bits_fed (limit coder.cells.parameters) (qbpp coder.cells.parameters)

-- they begin the bits of a sample that can come
abbrev pub BeginsRegular : Coder → RegularMode → Neighbours → CodeState → Type 0
BeginsRegular coder mode near code =
    BeginsSample coder.cells.parameters (cell_at coder.cells mode.context) near (regular_fed coder code)

-- or bits begin with no such sample's
abbrev pub NoRegular : Coder → RegularMode → Neighbours → List Bool → Type 0
NoRegular coder mode near = NoSample coder.cells.parameters (cell_at coder.cells mode.context) near

-- The same of a sample that interrupts a run, after J bits of the run's count ------------------------------------------

-- its cell, by RItype
abbrev pub interrupting_cell : Coder → Neighbours → RunCell
interrupting_cell coder near = run_cell_at coder.cells (is_same near)

-- the code of a number
abbrev pub interrupting_code : Coder → Neighbours → ℕ → ℕ → List Bool
interrupting_code coder near order =
    golomb (run_k (is_same near) (run_cell_at coder.cells (is_same near))) (limit coder.cells.parameters - order - 1)
    (qbpp coder.cells.parameters)

-- whether there is one
abbrev pub has_interrupting_code : Coder → Neighbours → ℕ → ℕ → Bool
has_interrupting_code coder near order =
    has_golomb (run_k (is_same near) (run_cell_at coder.cells (is_same near))) (limit coder.cells.parameters - order - 1)
    (qbpp coder.cells.parameters)

-- and bits that it begins with
abbrev pub BeginsInterruptingCode : Coder → Neighbours → ℕ → List Bool → ℕ → Type 0
BeginsInterruptingCode coder near order =
    BeginsCodeOf (run_k (is_same near) (run_cell_at coder.cells (is_same near))) (limit coder.cells.parameters - order - 1)
    (qbpp coder.cells.parameters)

-- the first bits of such a code, and no whole code
abbrev pub IsInterruptingOpen : Coder → Neighbours → ℕ → CodeState → Type 0
IsInterruptingOpen coder near order =
    IsOpen (run_k (is_same near) (run_cell_at coder.cells (is_same near))) (limit coder.cells.parameters - order - 1)
    (qbpp coder.cells.parameters)

-- these bits
abbrev pub interrupting_fed : Coder → ℕ → CodeState → List Bool
interrupting_fed coder order = bits_fed (limit coder.cells.parameters - order - 1) (qbpp coder.cells.parameters)

-- they begin the bits of a sample that can come
abbrev pub BeginsInterrupting : Coder → Neighbours → ℕ → CodeState → Type 0
BeginsInterrupting coder near order code =
    BeginsInterruption coder.cells.parameters (run_cell_at coder.cells (is_same near)) near order (interrupting_fed coder order code)

-- or bits begin with no such sample's
abbrev pub NoInterrupting : Coder → Neighbours → ℕ → List Bool → Type 0
NoInterrupting coder near order = NoInterruption coder.cells.parameters (run_cell_at coder.cells (is_same near)) near order
