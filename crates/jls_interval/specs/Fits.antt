-- Which lines can be written as one interval.
use Rattle.std.specs.Prelude.{◌≡◌, ℕ, ◌*◌, ◌%◌, ◌^◌, ◌≤◌, List, length}
use Rattle.std.specs.List.{AllByRecursion}
use Rattle.jls_values.specs.Params.{CodingParameters}
use Rattle.jls_interval.specs.Lines.{IsLine}

-- whole rows of 1 to 4 components, at least one row, in lines of the width with samples of at most MAXVAL; together at most 2^28
-- samples, which is this project's bound
pub record FitsInterval (p : CodingParameters) (width components : ℕ) (lines : List (List ℕ)) : Type 0 where
  pub width_at_least : 1 ≤ width
  pub components_at_least : 1 ≤ components
  pub components_at_most : components ≤ 4
  pub lines_at_least : 1 ≤ length lines
  pub whole_rows : length lines % components ≡ 0
  pub each : AllByRecursion (IsLine p width) lines
  pub samples_at_most : length lines * width ≤ 2 ^ 28
