-- The variables of all contexts, as they stand between two samples of an interval (T.87, A.2).
use Rattle.std.specs.Prelude.{ℕ, Bool, if◌then◌else◌, List, get_or, replicate}
use Rattle.jls_values.specs.Params.{CodingParameters}
use Rattle.jls_context.specs.declared.regular.Cell.{Cell}
use Rattle.jls_context.specs.declared.interruption.RunCell.{RunCell}
use Rattle.jls_context.specs.Regular.{initial_cell}
use Rattle.jls_context.specs.Interruption.{initial_run_cell}

-- the parameters of the scan, the cells of regular mode, and those of run interruption for RItype 0 and 1 (T.87 A.2)
pub record Variables : Type 0 where
  pub parameters : CodingParameters
  pub regular : List Cell
  pub run_other : RunCell
  pub run_same : RunCell

-- the variables at the start of an interval: contexts 0 to 364, of which 0 is never used (T.87 A.2)
abbrev pub initial_variables : CodingParameters → Variables
initial_variables p =
    record { parameters = p; regular = replicate 365 (initial_cell p); run_other = initial_run_cell p; run_same = initial_run_cell p }

-- the cell of a context. If there is none, it is as at the start (T.87 A.2)
unfoldable pub cell_at : Variables → ℕ → Cell
cell_at v context = get_or v.regular context (initial_cell v.parameters)

-- the cell of run interruption, where `same` says that RItype is 1 (T.87 A.2)
abbrev pub run_cell_at : Variables → Bool → RunCell
run_cell_at v same = if same then v.run_same else v.run_other
