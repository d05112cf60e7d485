-- The samples that have codes of their own, and the state of a cell and of RUNindex before an event (T.87 A.6, A.7, B.2).
use Rattle.std.specs.Prelude.{ℕ, Bool, true, false, ◌==◌, List, [], ◌∷◌}
use Rattle.std.specs.List.{filter, fold, flat_map}
use Rattle.jls_values.specs.Params.{CodingParameters}
use Rattle.jls_context.specs.declared.mode.Neighbours.{Neighbours}
use Rattle.jls_context.specs.declared.regular.Cell.{Cell}
use Rattle.jls_context.specs.declared.interruption.RunCell.{RunCell}
use Rattle.jls_context.specs.Mode.{context}
use Rattle.jls_context.specs.Regular.{updated, initial_cell}
use Rattle.jls_context.specs.Interruption.{initial_run_cell, run_updated}
use Rattle.jls_interval.specs.Cells.{regular_error, interruption_error}
use Rattle.jls_interval.specs.Runs.{blocks, run_index_lowered}
use Rattle.jls_pixel.specs.Events.{Event, regular_pixel, run_to_end, interrupted_run}

-- a sample that has a code of its own. It is of a pixel in regular mode, or of a pixel that interrupts a run (T.87 A.4, A.7.2)
pub data CodedSample : Type 0 where
  regular : Neighbours → ℕ → CodedSample
  interrupting : Neighbours → ℕ → CodedSample

-- the samples of a pixel, each with its neighbours, in the order of the components
abbrev pub coded_with : (Neighbours → ℕ → CodedSample) → List Neighbours → List ℕ → List CodedSample
coded_with kind [] pixel = []
coded_with kind (near ∷ nears) [] = []
coded_with kind (near ∷ nears) (sample ∷ pixel) = kind near sample ∷ coded_with kind nears pixel

-- the samples of an event that have codes, in the order of the components (T.87 B.2)
abbrev pub coded : Event → List CodedSample
coded (regular_pixel nears pixel) = coded_with regular nears pixel
coded (run_to_end count) = []
coded (interrupted_run count nears pixel) = coded_with interrupting nears pixel

-- those of some events
abbrev pub coded_samples : List Event → List CodedSample
coded_samples events = flat_map coded events

-- Regular mode ---------------------------------------------------------------------------------------

-- whether a sample uses cell q, from 0 to 364: it is in regular mode, and that is its context. All components share the cells (T.87 A.4)
abbrev pub uses_cell : CodingParameters → ℕ → CodedSample → Bool
uses_cell p q (regular near sample) = context p near == q
uses_cell p q (interrupting near sample) = false

-- a cell after a sample that uses it: updated by the sample's error, which depends on the C of the cell itself (T.87 A.4, A.6)
abbrev pub cell_after : CodingParameters → Cell → CodedSample → Cell
cell_after p cell (regular near sample) = updated p.reset cell (regular_error p cell near sample)
cell_after p cell (interrupting near sample) = cell

-- cell q, from 0 to 364, before a sample: the update over the earlier samples of its context, in order (T.87 A.6)
unfoldable pub cell_before : CodingParameters → List CodedSample → ℕ → Cell
cell_before p earlier q = fold (cell_after p) (initial_cell p) (filter (uses_cell p q) earlier)

-- Run interruption -----------------------------------------------------------------------------------

-- whether a sample is of a pixel that interrupts a run
abbrev pub is_interrupting : CodedSample → Bool
is_interrupting (regular near sample) = false
is_interrupting (interrupting near sample) = true

-- cell 365 after such a sample: RItype is 0 for each, whatever its Ra and Rb (T.87 A.7.2, B.2)
abbrev pub run_cell_after : CodingParameters → RunCell → CodedSample → RunCell
run_cell_after p cell (regular near sample) = cell
run_cell_after p cell (interrupting near sample) = run_updated p.reset false cell (interruption_error p near sample)

-- cell 365 before a sample, from the earlier ones. Cell 366 is never used (T.87 A.7.2)
unfoldable pub run_cell_before : CodingParameters → List CodedSample → RunCell
run_cell_before p earlier = fold (run_cell_after p) (initial_run_cell p) (filter is_interrupting earlier)

-- RUNindex -------------------------------------------------------------------------------------------

-- RUNindex after an event: risen by the full blocks of its run, and then fallen if the run is interrupted (T.87 A.7.1)
abbrev pub run_index_after : ℕ → Event → ℕ
run_index_after run_index (regular_pixel nears pixel) = run_index
run_index_after run_index (run_to_end count) = (blocks run_index count).run_index
run_index_after run_index (interrupted_run count nears pixel) = run_index_lowered (blocks run_index count).run_index

-- RUNindex before an event, from the earlier ones: the scan has one. It begins at 0 (T.87 A.7.1, B.2)
unfoldable pub run_index_before : List Event → ℕ
run_index_before earlier = fold run_index_after 0 earlier
