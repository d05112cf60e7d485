-- What a coder carries from sample to sample and from event to event, against the earlier ones of its interval.
use Rattle.std.specs.Prelude.{◌≡◌, ℕ, false, List}
use Rattle.jls_values.specs.Params.{CodingParameters}
use Rattle.jls_context.specs.Variables.{Variables, cell_at, run_cell_at}
use Rattle.jls_pixel.specs.Events.{Event}
use Rattle.jls_pixel.specs.Cells.{CodedSample, cell_before, run_cell_before, coded_samples, run_index_before}

-- the parameters are these, and the variables of the contexts are those that the earlier samples leave
pub record CellsAfter (p : CodingParameters) (cells : Variables) (earlier : List CodedSample) : Type 0 where
  pub parameters : cells.parameters ≡ p
  pub regular_cells : (context : ℕ) → cell_at cells context ≡ cell_before p earlier context
  pub run_cell : run_cell_at cells false ≡ run_cell_before p earlier

-- the same of events, and RUNindex is the one that they leave
pub record IsAfter (p : CodingParameters) (cells : Variables) (run_index : ℕ) (earlier : List Event) : Type 0 where
  pub cells_after : CellsAfter p cells (coded_samples earlier)
  pub run_index_is : run_index ≡ run_index_before earlier
