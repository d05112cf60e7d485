-- What is true of the cells after any number of errors.
use Rattle.std.specs.Prelude.{◌≡◌, ℕ, ◌+◌, ◌*◌, ◌^◌, ◌<◌, ◌≤◌, List, length, map, pos, negsuc, neg_ℤ, ◌≤ℤ◌, ◌<ℤ◌}
use Rattle.std.specs.List.{All}
use Rattle.jls_values.specs.Params.{AreCodingParameters}
use Rattle.jls_context.specs.Regular.{code_of}
use Rattle.jls_context.specs.Variables.{Variables}
use Rattle.jls_context.specs.declared.regular.Cell.{Cell}
use Rattle.jls_context.specs.declared.regular.CellCode.{CellCode}
use Rattle.jls_context.specs.declared.interruption.RunCell.{RunCell}

-- The ranges of a cell: N from 1 to RESET, A so small that k is at most 16, B above -N and at most 0, C from -128 to 127
pub record IsCell (reset : ℕ) (cell : Cell) : Type 0 where
  pub occurrences_at_least : 1 ≤ cell.occurrences
  pub occurrences_at_most : cell.occurrences ≤ reset
  pub magnitudes_at_most : cell.magnitudes ≤ 2 ^ 15 * (cell.occurrences + 1)
  pub bias_above : neg_ℤ (pos cell.occurrences) <ℤ cell.bias
  pub bias_at_most : cell.bias ≤ℤ pos 0
  pub correction_at_least : negsuc 127 ≤ℤ cell.correction
  pub correction_at_most : cell.correction ≤ℤ pos 127

-- the ranges of a cell of run interruption: N, A and Nn
pub record IsRunCell (reset : ℕ) (cell : RunCell) : Type 0 where
  pub occurrences_at_least : 1 ≤ cell.occurrences
  pub occurrences_at_most : cell.occurrences ≤ reset
  pub magnitudes_at_most : cell.magnitudes ≤ 2 ^ 15 * (cell.occurrences + 1)
  pub negative_errors_at_most : cell.negative_errors ≤ cell.occurrences

-- the ranges of the parameters and of all cells
pub record AreVariables (v : Variables) : Type 0 where
  pub ranges : AreCodingParameters v.parameters
  pub maxval_below : v.parameters.maxval < 2 ^ 16
  pub reset_below : v.parameters.reset < 2 ^ 16
  pub length_is : length v.regular ≡ 365
  pub regular : All (IsCell v.parameters.reset) v.regular
  pub run_other : IsRunCell v.parameters.reset v.run_other
  pub run_same : IsRunCell v.parameters.reset v.run_same

-- the variables, with what each cell says of its next code beside it
pub record AreCells (v : Variables) (codes : List CellCode) : Type 0 where
  pub variables : AreVariables v
  pub codes_are : codes ≡ map code_of v.regular
