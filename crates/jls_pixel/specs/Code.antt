-- The bits that the rows of an interval by sample are written as (T.87 A.5.3, A.7, B.2).
use Rattle.std.specs.Prelude.{ℕ, ◌-◌, Bool, false, List, [], ◌∷◌, ◌++◌}
use Rattle.jls_values.specs.Params.{CodingParameters, qbpp, limit}
use Rattle.jls_bits.specs.Golomb.{golomb}
use Rattle.jls_context.specs.declared.mode.Neighbours.{Neighbours}
use Rattle.jls_context.specs.declared.interruption.RunCell.{RunCell}
use Rattle.jls_context.specs.Mode.{context}
use Rattle.jls_context.specs.Interruption.{run_k, interruption_mapped}
use Rattle.jls_interval.specs.Cells.{interruption_error}
use Rattle.jls_interval.specs.Runs.{run_order, blocks}
use Rattle.jls_interval.specs.Code.{regular_bits, run_to_end_bits, interrupted_run_bits}
use Rattle.jls_pixel.specs.Events.{Event, regular_pixel, run_to_end, interrupted_run, events}
use Rattle.jls_pixel.specs.Cells.{CodedSample, regular, interrupting, coded_with, coded_samples, cell_before, run_cell_before}
use Rattle.jls_pixel.specs.Cells.{run_index_before}

-- the bits of a sample of a pixel that interrupts a run. They are the Golomb code of EM for RItype 0, with the limit LIMIT - J - 1. J is
-- `order` (T.87 A.5.3, A.7, B.2)
abbrev pub interrupting_bits : CodingParameters → RunCell → Neighbours → ℕ → ℕ → List Bool
interrupting_bits p cell near order sample =
    golomb (run_k false cell) (limit p - order - 1) (qbpp p) (interruption_mapped false cell (interruption_error p near sample))

-- the bits of a sample after the earlier ones. J is `order` if it is of a pixel that interrupts a run (T.87 A.5.3, A.7)
unfoldable pub sample_bits : CodingParameters → ℕ → List CodedSample → CodedSample → List Bool
sample_bits p order earlier (regular near sample) = regular_bits p (cell_before p earlier (context p near)) near sample
sample_bits p order earlier (interrupting near sample) = interrupting_bits p (run_cell_before p earlier) near order sample

-- the bits of samples, one after another, after the earlier ones (T.87 A.5.3, A.7, B.2)
unfoldable pub bits_of_samples : CodingParameters → ℕ → List CodedSample → List CodedSample → List Bool
bits_of_samples p order earlier [] = []
bits_of_samples p order earlier (sample ∷ later) =
    sample_bits p order earlier sample ++ bits_of_samples p order (earlier ++ sample ∷ []) later

-- the bits of an event after the earlier ones. J is taken at RUNindex after the full blocks, before its fall. It is the same for all
-- samples of the pixel that interrupts the run (T.87 A.5.3, A.7, B.2)
unfoldable pub event_bits : CodingParameters → List Event → Event → List Bool
event_bits p earlier (regular_pixel nears pixel) =
    bits_of_samples p 0 (coded_samples earlier) (coded_with regular nears pixel)
event_bits p earlier (run_to_end count) = run_to_end_bits (blocks (run_index_before earlier) count)
event_bits p earlier (interrupted_run count nears pixel) =
    let run = blocks (run_index_before earlier) count in
    interrupted_run_bits run
    (bits_of_samples p (run_order run.run_index) (coded_samples earlier) (coded_with interrupting nears pixel))

-- the bits of events, one after another, after the earlier ones (T.87 A.5.3, A.7)
unfoldable pub bits_of_events : CodingParameters → List Event → List Event → List Bool
bits_of_events p earlier [] = []
bits_of_events p earlier (event ∷ later) = event_bits p earlier event ++ bits_of_events p (earlier ++ event ∷ []) later

-- the code of an interval's rows: the bits of all its events. It means something for rows as `AreRows` has them (T.87 A.5.3, A.7, B.2)
unfoldable pub pixel_code : CodingParameters → ℕ → ℕ → List (List (List ℕ)) → List Bool
pixel_code p width components rows = bits_of_events p [] (events width components rows)
