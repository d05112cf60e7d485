-- What a coder carries from event to event, against the earlier events of its interval.
use Rattle.std.specs.Prelude.{◌≡◌, ℕ, Bool, List, get_or}
use Rattle.jls_values.specs.Params.{CodingParameters}
use Rattle.jls_context.specs.Variables.{Variables, cell_at, run_cell_at}
use Rattle.jls_interval.specs.Events.{Event}
use Rattle.jls_interval.specs.Cells.{cell_before, run_cell_before}
use Rattle.jls_interval.specs.Runs.{run_index_before}

-- the parameters are these, and the variables of the contexts and RUNindex of each component are those that the earlier events leave
pub record IsAfter (p : CodingParameters) (cells : Variables) (run_indices : List ℕ) (earlier : List Event) : Type 0 where
  pub parameters : cells.parameters ≡ p
  pub regular_cells : (context : ℕ) → cell_at cells context ≡ cell_before p earlier context
  pub run_cells : (same : Bool) → run_cell_at cells same ≡ run_cell_before p earlier same
  pub run_indices_are : (component : ℕ) → get_or run_indices component 0 ≡ run_index_before earlier component
