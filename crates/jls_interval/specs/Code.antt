-- The bits that an interval's lines are written as (T.87 A.5.3 and A.7). Editions of the standard word LIMIT - J - 1 differently: what
-- stands here is the project's reading. The first lines of `src/lib.rt` say in nine steps how the definitions of this crate fit together.
use Rattle.std.specs.Prelude.{ℕ, ◌-◌, Bool, true, false, ◌==◌, if◌then◌else◌, List, [], ◌∷◌, ◌++◌, replicate}
use Rattle.jls_values.specs.Params.{CodingParameters, qbpp, limit}
use Rattle.jls_bits.specs.Bits.{bits}
use Rattle.jls_bits.specs.Golomb.{golomb}
use Rattle.jls_context.specs.declared.mode.Neighbours.{Neighbours}
use Rattle.jls_context.specs.declared.regular.Cell.{Cell}
use Rattle.jls_context.specs.declared.interruption.RunCell.{RunCell}
use Rattle.jls_context.specs.Mode.{context}
use Rattle.jls_context.specs.Regular.{regular_k, regular_mapped}
use Rattle.jls_context.specs.Interruption.{run_k, interruption_mapped}
use Rattle.jls_interval.specs.Events.{Event, regular, run_to_end, interrupted_run, events}
use Rattle.jls_interval.specs.Cells.{regular_error, cell_before, is_same, interruption_error, run_cell_before}
use Rattle.jls_interval.specs.Runs.{run_order, Blocks, blocks, run_index_before}

-- the bits of a sample in regular mode: the Golomb code, with the limit LIMIT, of its mapped error (T.87 A.5.3, A.7)
abbrev pub regular_bits : CodingParameters → Cell → Neighbours → ℕ → List Bool
regular_bits p cell near sample =
    golomb (regular_k cell) (limit p) (qbpp p) (regular_mapped cell (regular_error p cell near sample))

-- the bits of a run to the end of its line: a one for each full block, and a one if columns remain (T.87 A.5.3, A.7)
abbrev pub run_to_end_bits : Blocks → List Bool
run_to_end_bits run =
    replicate run.full_blocks true ++ (if (run.remaining == 0) then [] else true ∷ [])

-- the bits of an interrupted run: a one for each full block, a zero, the columns that remain in J bits, and then `rest`, the bits of the
-- sample that interrupts it (T.87 A.5.3, A.7)
abbrev pub interrupted_run_bits : Blocks → List Bool → List Bool
interrupted_run_bits run rest =
    replicate run.full_blocks true ++ false ∷ bits (run_order run.run_index) run.remaining ++ rest

-- the bits of the sample that interrupts a run: the Golomb code, with the limit LIMIT - J - 1, of EM, which is its mapped error. J is
-- `order` (T.87 A.5.3, A.7)
abbrev pub interrupting_bits : CodingParameters → RunCell → Neighbours → ℕ → ℕ → List Bool
interrupting_bits p cell near order sample =
    golomb (run_k (is_same near) cell) (limit p - order - 1) (qbpp p)
    (interruption_mapped (is_same near) cell (interruption_error p near sample))

-- the bits of an event after the earlier ones. J is taken at RUNindex after the full blocks, before its fall (T.87 A.5.3, A.7)
unfoldable pub event_bits : CodingParameters → List Event → Event → List Bool
event_bits p earlier (regular near sample) = regular_bits p (cell_before p earlier (context p near)) near sample
event_bits p earlier (run_to_end component count) = run_to_end_bits (blocks (run_index_before earlier component) count)
event_bits p earlier (interrupted_run component count near sample) =
    let run = blocks (run_index_before earlier component) count in
    interrupted_run_bits run (interrupting_bits p (run_cell_before p earlier (is_same near)) near (run_order run.run_index) sample)

-- the bits of events, one after another, after the earlier ones (T.87 A.5.3, A.7)
unfoldable pub bits_of_events : CodingParameters → List Event → List Event → List Bool
bits_of_events p earlier [] = []
bits_of_events p earlier (event ∷ later) = event_bits p earlier event ++ bits_of_events p (earlier ++ event ∷ []) later

-- the code of an interval's lines: the bits of all its events. It means something for lines as `AreLines` has them (T.87 A.5.3, A.7)
unfoldable pub code : CodingParameters → ℕ → ℕ → List (List ℕ) → List Bool
code p width components lines = bits_of_events p [] (events width components lines)
