-- The state of a cell before an event: the update, folded over the earlier events of the interval that use the cell (T.87 A.6, A.7.2).
use Rattle.std.specs.Prelude.{ℕ, Bool, true, false, not, nat_lt, ◌==◌, List, ℤ}
use Rattle.std.specs.List.{filter, fold}
use Rattle.jls_values.specs.Params.{CodingParameters}
use Rattle.jls_context.specs.declared.mode.Neighbours.{Neighbours}
use Rattle.jls_context.specs.declared.regular.Cell.{Cell}
use Rattle.jls_context.specs.declared.interruption.RunCell.{RunCell}
use Rattle.jls_context.specs.Mode.{context, is_negative}
use Rattle.jls_context.specs.Prediction.{edge_detecting_predictor, corrected_prediction}
use Rattle.jls_context.specs.Errors.{prediction_error}
use Rattle.jls_context.specs.Regular.{updated, initial_cell}
use Rattle.jls_context.specs.Interruption.{initial_run_cell, run_updated}
use Rattle.jls_interval.specs.Events.{Event, regular, run_to_end, interrupted_run}

-- Regular mode ---------------------------------------------------------------------------------------

-- whether an event uses cell q, from 1 to 364: it has one column in regular mode, whose context that is (T.87 A.4, A.6)
abbrev pub uses_cell : CodingParameters → ℕ → Event → Bool
uses_cell p q (regular near sample) = context p near == q
uses_cell p q (run_to_end component count) = false
uses_cell p q (interrupted_run component count near sample) = false

-- the prediction of a sample in regular mode, under the correction C of its cell (T.87 A.4, A.6)
abbrev pub regular_prediction : CodingParameters → Cell → Neighbours → ℕ
regular_prediction p cell near =
    corrected_prediction p (is_negative p near) cell.correction (edge_detecting_predictor near.ra near.rb near.rc)

-- the error of a sample in regular mode, against the prediction corrected by the C of its cell (T.87 A.4)
abbrev pub regular_error : CodingParameters → Cell → Neighbours → ℕ → ℤ
regular_error p cell near sample =
    prediction_error p (is_negative p near) sample (regular_prediction p cell near)

-- a cell after an event that uses it: updated by the error of the event's sample, which depends on the C of the cell itself (T.87 A.4, A.6)
abbrev pub cell_after : CodingParameters → Cell → Event → Cell
cell_after p cell (regular near sample) = updated p.reset cell (regular_error p cell near sample)
cell_after p cell (run_to_end component count) = cell
cell_after p cell (interrupted_run component count near sample) = cell

-- cell q, from 1 to 364, before an event: the update over the earlier events of its context, in order (T.87 A.6)
unfoldable pub cell_before : CodingParameters → List Event → ℕ → Cell
cell_before p earlier q = fold (cell_after p) (initial_cell p) (filter (uses_cell p q) earlier)

-- Run interruption -----------------------------------------------------------------------------------

-- whether the RItype of an interrupting sample is 1, and so its cell 366: Ra and Rb of that sample itself are equal (T.87 A.7.2)
abbrev pub is_same : Neighbours → Bool
is_same near = near.ra == near.rb

-- the prediction error of an interrupting sample. Its prediction is Rb, which for RItype 1 is also Ra. If Ra is above Rb, which only RItype
-- 0 can have, the sign is turned (T.87 A.7.2)
abbrev pub interruption_error : CodingParameters → Neighbours → ℕ → ℤ
interruption_error p near sample = prediction_error p (nat_lt near.rb near.ra) sample near.rb

-- whether two truth values are the same
abbrev pub equal : Bool → Bool → Bool
equal true y = y
equal false y = not y

-- whether an event uses cell 365 (`same` is false) or 366 (`same` is true) (T.87 A.7.2)
abbrev pub uses_run_cell : Bool → Event → Bool
uses_run_cell same (regular near sample) = false
uses_run_cell same (run_to_end component count) = false
uses_run_cell same (interrupted_run component count near sample) = equal same (is_same near)

-- that cell after an event that uses it (T.87 A.7.2)
abbrev pub run_cell_after : CodingParameters → Bool → RunCell → Event → RunCell
run_cell_after p same cell (regular near sample) = cell
run_cell_after p same cell (run_to_end component count) = cell
run_cell_after p same cell (interrupted_run component count near sample) =
    run_updated p.reset same cell (interruption_error p near sample)

-- cell 365 or 366 before an event, from the earlier events (T.87 A.7.2)
unfoldable pub run_cell_before : CodingParameters → List Event → Bool → RunCell
run_cell_before p earlier same =
    fold (run_cell_after p same) (initial_run_cell p) (filter (uses_run_cell same) earlier)
