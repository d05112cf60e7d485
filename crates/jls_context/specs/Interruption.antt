-- The two cells of samples that interrupt a run (T.87, A.7.2). `same` says that RItype is 1: Ra and Rb are the same.
use Rattle.std.specs.Prelude.{ℕ, ◌+◌, ◌-◌, ◌*◌, ◌/◌, Bool, false, not, ◌&&◌, ◌||◌, nat_lt, nat_le, ◌==◌, if◌then◌else◌}
use Rattle.std.specs.Prelude.{ℤ, pos, unsigned_abs, int_lt}
use Rattle.jls_values.specs.Params.{CodingParameters}
use Rattle.jls_context.specs.declared.interruption.RunCell.{RunCell}
use Rattle.jls_context.specs.Regular.{initial_magnitudes, golomb_k}

-- a run interruption cell at the start of an interval: A as in `initial_magnitudes`, N = 1, Nn = 0 (T.87 A.2)
abbrev pub initial_run_cell : CodingParameters → RunCell
initial_run_cell p =
    record { magnitudes = initial_magnitudes p; occurrences = 1; negative_errors = 0 }

-- TEMP: A, and for RItype 1 also floor(N/2) (T.87 A.7.2)
abbrev pub interruption_magnitudes : Bool → RunCell → ℕ
interruption_magnitudes same cell =
    if same then cell.magnitudes + cell.occurrences / 2 else cell.magnitudes

-- k: the least with N * 2^k >= TEMP (T.87 A.7.2)
abbrev pub run_k : Bool → RunCell → ℕ
run_k same cell = golomb_k cell.occurrences (interruption_magnitudes same cell)

-- map: whether an error has the smaller number of the two that errors of its size have (T.87 A.7.2)
abbrev pub interruption_map : Bool → RunCell → ℤ → Bool
interruption_map same cell e =
    ((run_k same cell == 0) && int_lt (pos 0) e && nat_lt (2 * cell.negative_errors) cell.occurrences)
    || (int_lt e (pos 0) && nat_le cell.occurrences (2 * cell.negative_errors))
    || (int_lt e (pos 0) && not (run_k same cell == 0))

-- 1 if the condition holds, else 0
abbrev pub one_if : Bool → ℕ
one_if b = if b then 1 else 0

-- EM = 2 * |E| - RItype - map. For RItype 1 the error is not 0 (T.87 A.7.2)
abbrev pub interruption_mapped : Bool → RunCell → ℤ → ℕ
interruption_mapped same cell e =
    2 * unsigned_abs e - one_if same - one_if (interruption_map same cell e)

-- A += floor((EM + 1 - RItype) / 2), and Nn += 1 if the error is negative (T.87 A.7.2)
abbrev pub run_with_error : Bool → RunCell → ℤ → RunCell
run_with_error same cell e = record cell {
  magnitudes = cell.magnitudes + (interruption_mapped same cell e + 1 - one_if same) / 2;
  negative_errors = cell.negative_errors + one_if (int_lt e (pos 0));
}

-- A, N and Nn halved, each to its floor (T.87 A.7.2)
abbrev pub run_halved : RunCell → RunCell
run_halved cell =
    record { magnitudes = cell.magnitudes / 2; occurrences = cell.occurrences / 2; negative_errors = cell.negative_errors / 2 }

-- N += 1 (T.87 A.7.2)
abbrev pub run_counted : RunCell → RunCell
run_counted cell = record cell { occurrences = cell.occurrences + 1 }

-- a cell after an error (T.87 A.7.2)
unfoldable pub run_updated : ℕ → Bool → RunCell → ℤ → RunCell
run_updated reset same cell e =
    let now = run_with_error same cell e in
    run_counted (if (now.occurrences == reset) then run_halved now else now)

-- The same map by the sign of the error, which is how the code computes it. No public contract cites these ----

-- map by the sign alone, which is how a coder computes `interruption_map`: `first` says what it is for errors above 0; for
-- those below it is the contrary, and for 0 it is 0
abbrev pub map_by_sign : Bool → ℤ → Bool
map_by_sign first e =
    if int_lt (pos 0) e then first
    else if int_lt e (pos 0) then not first
    else false

-- whether map is 1 for errors above 0 and 0 for those below; where this is false, it is the other way round
abbrev pub maps_positive : Bool → RunCell → Bool
maps_positive same cell =
    (run_k same cell == 0) && nat_lt (2 * cell.negative_errors) cell.occurrences

-- EM with a map by the sign, which is `interruption_mapped` for `first` = `maps_positive`
abbrev pub mapped_by_sign : Bool → Bool → ℤ → ℕ
mapped_by_sign same first e = 2 * unsigned_abs e - one_if same - one_if (map_by_sign first e)
