-- The lines of an interval, and the samples round a place in them (T.87 A.2 and A.3; B.2 for several components).
use Rattle.std.specs.Prelude.{◌≡◌, ℕ, ◌+◌, ◌-◌, ◌*◌, ◌≤◌, nat_lt, ◌==◌, if◌then◌else◌, List, [], length, get_or, ℤ, pos, negsuc, ◌-ℤ◌}
use Rattle.std.specs.List.{AllByRecursion}
use Rattle.jls_values.specs.Params.{CodingParameters}
use Rattle.jls_context.specs.declared.mode.Neighbours.{Neighbours}

-- what is agreed on of an interval: the parameters, the columns, the components that take turns, and the lines of all of them
pub record IntervalShape : Type 0 where
  pub params : CodingParameters
  pub width : ℕ
  pub components : ℕ
  pub line_count : ℕ

-- the interval of these four
abbrev pub interval_shape : CodingParameters → ℕ → ℕ → ℕ → IntervalShape
interval_shape params width components line_count =
    record { params = params; width = width; components = components; line_count = line_count }

-- a line of this width, its samples at most MAXVAL (T.87 B.2)
abbrev pub IsLine : CodingParameters → ℕ → List ℕ → Type 0
IsLine p width line = (length line ≡ width) × AllByRecursion (λ sample. sample ≤ p.maxval) line

-- so many lines of this width. They are in order of rows, and within a row in the order of the scan's components: with two components lines
-- 0, 2, 4 .. are those of the first. They may end inside a row (T.87 B.2)
pub record AreLines (p : CodingParameters) (width count : ℕ) (lines : List (List ℕ)) : Type 0 where
  pub count_is : length lines ≡ count
  pub each : AllByRecursion (IsLine p width) lines

-- L(y, x): the sample in column x of line y of a component. The lines -1 and -2 are zeros (T.87 A.2)
unfoldable pub sample_at : ℕ → List (List ℕ) → ℕ → ℤ → ℕ → ℕ
sample_at components lines component (pos y) x = get_or (get_or lines (y * components + component) []) x 0
sample_at components lines component (negsuc y) x = 0

-- the samples around column x of line y of a component: Ra to the left, Rb above, Rc above to the left, Rd above to the right. In the first
-- column Ra is Rb, and Rc is the Ra that the line above had there. In the last column Rd is Rb. Editions of the standard word Rc of the
-- first column differently: this is the project's reading (T.87 A.2, A.3)
unfoldable pub neighbours_at : ℕ → ℕ → List (List ℕ) → ℕ → ℕ → ℕ → Neighbours
neighbours_at width components lines component y x = record {
  ra = if (x == 0) then sample_at components lines component (pos y -ℤ pos 1) x else sample_at components lines component (pos y) (x - 1);
  rb = sample_at components lines component (pos y -ℤ pos 1) x;
  rc = if (x == 0) then sample_at components lines component (pos y -ℤ pos 2) x
      else sample_at components lines component (pos y -ℤ pos 1) (x - 1);
  rd = if (nat_lt (x + 1) width) then sample_at components lines component (pos y -ℤ pos 1) (x + 1)
      else sample_at components lines component (pos y -ℤ pos 1) x;
}
