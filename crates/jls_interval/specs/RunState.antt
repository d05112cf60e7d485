-- A run (T.87 A.7.1) that is read bit by bit: which bits a state stands for, and what one more bit makes of them.
use Rattle.std.specs.Prelude.{◌≡◌, ℕ, ◌^◌, ◌<◌, ◌≤◌, Bool, false, List, [], ◌∷◌, ◌++◌}
use Rattle.jls_bits.specs.Bits.{bits}
use Rattle.jls_interval.specs.Runs.{run_order, blocks}
use Rattle.jls_interval.specs.Code.{run_to_end_bits, interrupted_run_bits}
use Rattle.jls_interval.specs.Reading.{NoRun, Taken}
use Rattle.jls_interval.specs.declared.run_reader.Run.{Run}
use Rattle.jls_interval.specs.declared.run_reader.Run.TheVariants.{ToEnd, Interrupted}
use Rattle.jls_interval.specs.declared.run_reader.RunState.{RunState}
use Rattle.jls_interval.specs.declared.run_reader.RunState.TheVariants.{Blocks, Count}
use Rattle.jls_interval.specs.declared.run_reader.RunStep.{RunStep}
use Rattle.jls_interval.specs.declared.run_reader.RunStep.TheVariants.{More, Done, Refused}

-- the run, from RUNindex r0 on where w0 columns are left, stands at the start of the bits, and these are after it
abbrev pub RunIs : ℕ → ℕ → List Bool → List Bool → Run → Type 0
RunIs r0 w0 given unread (ToEnd run_index) =
    (given ≡ run_to_end_bits (blocks r0 w0) ++ unread) × ((blocks r0 w0).run_index ≡ run_index)
RunIs r0 w0 given unread (Interrupted count run_index) =
    (count < w0) × (given ≡ interrupted_run_bits (blocks r0 count) unread) × ((blocks r0 count).run_index ≡ run_index)

-- the numbers of a run, where w0 columns were left
abbrev pub IsRun : ℕ → Run → Type 0
IsRun w0 (ToEnd run_index) = run_index ≤ 31
IsRun w0 (Interrupted count run_index) = (count < w0) × (run_index ≤ 31)

-- The numbers of a state. After the zero of an interrupted run, `count` bits of the columns that remain were read, and `value` is their
-- number
abbrev pub IsRunState : ℕ → RunState → Type 0
IsRunState w0 (Blocks run_index columns) = (run_index ≤ 31) × (0 < columns) × (columns ≤ w0)
IsRunState w0 (Count run_index columns count value) =
    (run_index ≤ 31) × (0 < columns) × (columns ≤ w0) × (count < run_order run_index) × (count ≤ 14) × (value < 2 ^ count)

-- the numbers of what a step answers
abbrev pub IsRunStep : ℕ → RunStep → Type 0
IsRunStep w0 (More state) = IsRunState w0 state
IsRunStep w0 (Done run) = IsRun w0 run
IsRunStep w0 Refused = Unit {0}

-- the bits fed so far lead to the state
abbrev pub RunAt : ℕ → ℕ → List Bool → RunState → Type 0
RunAt r0 w0 given (Blocks run_index columns) = Taken r0 w0 given run_index columns []
RunAt r0 w0 given (Count run_index columns count value) =
    Taken r0 w0 given run_index columns (false ∷ bits count value)

-- what a step says of the bits fed so far and the new one
abbrev pub RunStepIs : ℕ → ℕ → List Bool → RunStep → Type 0
RunStepIs r0 w0 given (More state) = RunAt r0 w0 given state
RunStepIs r0 w0 given (Done run) = RunIs r0 w0 given [] run
RunStepIs r0 w0 given Refused = (more : List Bool) → NoRun r0 w0 (given ++ more)
