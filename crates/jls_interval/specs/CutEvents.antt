-- Which bits are the cut first bits of an event that can come next: of a sample's code, or of a run (T.87 A.5.3 and A.7).
use Rattle.std.specs.Prelude.{◌≡◌, ℕ, ◌+◌, ◌-◌, ◌*◌, ◌%◌, ◌^◌, ◌<◌, ◌↔◌, ◌⊎◌, Bool, true, false, List, ◌∷◌, ◌++◌, length, replicate, ℤ}
use Rattle.jls_values.specs.Params.{CodingParameters, AreCodingParameters, qbpp, limit}
use Rattle.jls_bits.specs.Bits.{bits}
use Rattle.jls_bits.specs.Golomb.{golomb}
use Rattle.jls_context.specs.declared.mode.Neighbours.{Neighbours}
use Rattle.jls_context.specs.declared.regular.Cell.{Cell}
use Rattle.jls_context.specs.Mode.{context, is_run_mode}
use Rattle.jls_context.specs.Errors.{IsError}
use Rattle.jls_context.specs.Regular.{regular_k, regular_mapped}
use Rattle.jls_context.specs.Interruption.{run_k, interruption_mapped}
use Rattle.jls_interval.specs.Events.{Event, Above, neighbours, above}
use Rattle.jls_interval.specs.Cells.{is_same, cell_before, run_cell_before, interruption_error}
use Rattle.jls_interval.specs.Runs.{run_order, run_index_raised, block_columns, run_index_before}
use Rattle.jls_interval.specs.Code.{event_bits}
use Rattle.jls_interval.specs.Stepwise.{Leads}
use Rattle.jls_interval.specs.Growth.{Position, here, IsNext, interval_steps, start}

-- the bits are a proper prefix of the whole (T.87 A.5.3, A.7)
pub record IsProperPrefix (begun whole : List Bool) : Type 0 where
  pub missing : Bool
  pub more_missing : List Bool
  pub whole_is : whole ≡ begun ++ missing ∷ more_missing

-- the bits are a proper prefix of those of an event that can come next. They may be none (T.87 A.5.3, A.7)
pub record CutsNextEvent (p : CodingParameters) (width components count : ℕ) (position : Position) (begun : List Bool) : Type 0 where
  pub event : Event
  pub is_next : IsNext p width components count position event
  pub cut : IsProperPrefix begun (event_bits p position.earlier event)

-- in regular mode: the bits are a proper prefix of the code of some error (T.87 A.5.3, A.7)
pub record CutsSample (p : CodingParameters) (cell : Cell) (begun : List Bool) : Type 0 where
  pub error : ℤ
  pub is_error : IsError p error
  pub cut : IsProperPrefix begun (golomb (regular_k cell) (limit p) (qbpp p) (regular_mapped cell error))

-- In a run that begins at a RUNindex with so many columns to the end of its line
module _ (run_index columns : ℕ) (begun : List Bool) where
  -- ones for full blocks, after which columns are left (T.87 A.5.3, A.7)
  pub record CutsBlocks : Type 0 where
    pub full : ℕ
    pub columns_left : block_columns run_index full < columns
    pub begun_is : begun ≡ replicate full true

  -- ones, the zero, and the first bits of the columns that remain, if the least number that begins so is below the columns left (T.87
  -- A.5.3, A.7)
  pub record CutsCount : Type 0 where
    pub full : ℕ
    pub read : ℕ
    pub value : ℕ
    pub not_whole : read < run_order (run_index_raised run_index full)
    pub value_fits : value < 2 ^ read
    pub least_fits : block_columns run_index full + value * 2 ^ (run_order (run_index_raised run_index full) - read) < columns
    pub begun_is : begun ≡ replicate full true ++ false ∷ bits read value

-- the neighbours of the column after so many of a run, if the line so far has these samples (T.87 A.5.3, A.7)
abbrev pub after_run : ℕ → Above → List ℕ → ℕ → Neighbours
after_run width up line count =
    neighbours width up (line ++ replicate count (neighbours width up line (length line)).ra) (length line + count)

-- ones, the zero, the columns that remain, and the first bits of the code of some error of the interrupting sample. The error of the run's
-- own value doesn't count (T.87 A.5.3, A.7)
pub record CutsInterruption (p : CodingParameters) (width : ℕ) (up : Above) (line : List ℕ)
    (earlier : List Event) (run_index : ℕ) (begun : List Bool) : Type 0 where
  pub full : ℕ
  pub remaining : ℕ
  pub remaining_fits : remaining < 2 ^ run_order (run_index_raised run_index full)
  pub count : ℕ
  pub count_is : count ≡ block_columns run_index full + remaining
  pub within : length line + count < width
  pub error : ℤ
  pub is_error : IsError p error
  pub not_own : error ≡ interruption_error p (after_run width up line count) (neighbours width up line (length line)).ra → ⊥
  pub code_begun : List Bool
  pub begun_is : begun ≡ (replicate full true ++ false ∷ bits (run_order (run_index_raised run_index full)) remaining) ++ code_begun
  pub cut : let near = after_run width up line count in let same = is_same near in let cell = run_cell_before p earlier same in
      let g = limit p - run_order (run_index_raised run_index full) - 1 in
      IsProperPrefix code_begun (golomb (run_k same cell) g (qbpp p) (interruption_mapped same cell error))

-- the bits are cut in one of these ways (T.87 A.5.3, A.7)
abbrev pub CutsRun : CodingParameters → ℕ → Above → List ℕ → List Event → ℕ → List Bool → Type 0
CutsRun p width up line earlier run_index begun =
    CutsBlocks run_index (width - length line) begun
    ⊎ (CutsCount run_index (width - length line) begun ⊎ CutsInterruption p width up line earlier run_index begun)

-- the bits are cut in one of the ways above: in a sample's code in regular mode, or in a run (T.87 A.5.3, A.7)
abbrev pub CutsByCases : CodingParameters → ℕ → ℕ → Position → List Bool → Type 0
CutsByCases p width components position begun =
    let near = here width components position in let earlier = position.earlier in
    ((is_run_mode near ≡ false) × CutsSample p (cell_before p earlier (context p near)) begun)
    ⊎ ((is_run_mode near ≡ true)
    × CutsRun p width (above components position.lines) position.line earlier
    (run_index_before earlier (length position.lines % components)) begun)

-- after whole events, bits cut an event that can come next if and only if lines are still to come and the bits are cut in one of the ways
-- above (T.87 A.5.3, A.7)
abbrev pub CutEventsGoOn : Type 0
CutEventsGoOn =
    (p : CodingParameters) (width components count : ℕ) → AreCodingParameters p → 0 < width
    → (whole : List Event) (position : Position) (begun : List Bool) → Leads (interval_steps p width components count) start whole position
    → CutsNextEvent p width components count position begun
    ↔ ((length position.lines < count) × CutsByCases p width components position begun)
