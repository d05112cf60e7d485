-- The cells of regular mode: k, the mapping of errors, and what an error changes (T.87, A.2, A.5.1, A.5.2, A.6).
use Rattle.std.specs.Prelude.{ℕ, ◌+◌, ◌*◌, ◌/◌, ◌^◌, ◌<◌, ◌≤◌, max, Bool, ◌&&◌, nat_le, ◌==◌, if◌then◌else◌}
use Rattle.std.specs.Prelude.{ℤ, pos, negsuc, ◌+ℤ◌, ◌-ℤ◌, ◌*ℤ◌, neg_ℤ, unsigned_abs, int_lt, int_le}
use Rattle.std.specs.Int.{int_div_euclid, int_max, int_min}
use Rattle.jls_values.specs.Params.{CodingParameters, range, least_from}
use Rattle.jls_context.specs.declared.regular.Cell.{Cell}
use Rattle.jls_context.specs.declared.regular.CellCode.{CellCode}
use Rattle.jls_context.specs.Errors.{error_mapped}

-- A of a cell at the start of an interval: max(2, floor((RANGE + 32) / 64)) (T.87 A.2)
abbrev pub initial_magnitudes : CodingParameters → ℕ
initial_magnitudes p = max 2 ((range p + 32) / 64)

-- a cell at the start of an interval: A as in `initial_magnitudes`, N = 1, B = C = 0 (T.87 A.2)
abbrev pub initial_cell : CodingParameters → Cell
initial_cell p =
    record { magnitudes = initial_magnitudes p; occurrences = 1; bias = pos 0; correction = pos 0 }

-- the least k with N * 2^k >= A (T.87 A.5.1). It is at most A, since N is above 0
unfoldable pub golomb_k : ℕ → ℕ → ℕ
golomb_k occurrences magnitudes = least_from (λ k. nat_le magnitudes (occurrences * 2 ^ k)) magnitudes 0

-- a number k is the least with N * 2^k >= A (T.87 A.5.1)
pub record IsGolombK (occurrences magnitudes k : ℕ) : Type 0 where
  pub enough : magnitudes ≤ occurrences * 2 ^ k
  pub least : (below : ℕ) → below < k → occurrences * 2 ^ below < magnitudes

-- k of a cell (T.87 A.5.1)
abbrev pub regular_k : Cell → ℕ
regular_k cell = golomb_k cell.occurrences cell.magnitudes

-- whether errors are mapped by the special mapping: k is 0, and 2 * B <= -N (T.87 A.5.2)
abbrev pub uses_special_mapping : Cell → Bool
uses_special_mapping cell =
    (regular_k cell == 0) && int_le (pos 2 *ℤ cell.bias) (neg_ℤ (pos cell.occurrences))

-- k and the mapping of a cell's next code (T.87 A.5.1, A.5.2)
abbrev pub code_of : Cell → CellCode
code_of cell = record { k = regular_k cell; special = uses_special_mapping cell }

-- the number that an error is mapped to (T.87 A.5.2)
abbrev pub regular_mapped : Cell → ℤ → ℕ
regular_mapped cell e = error_mapped (uses_special_mapping cell) e

-- B += E and A += |E| (T.87 A.6.1)
abbrev pub with_error : Cell → ℤ → Cell
with_error cell e =
    record cell { magnitudes = cell.magnitudes + unsigned_abs e; bias = cell.bias +ℤ e }

-- A, B and N halved, each to its floor: for B below 0 this is the standard's -((1 - B) >> 1) (T.87 A.6.1)
abbrev pub halved : Cell → Cell
halved cell =
    record cell { magnitudes = cell.magnitudes / 2; occurrences = cell.occurrences / 2; bias = int_div_euclid cell.bias (pos 2) }

-- N += 1 (T.87 A.6.1)
abbrev pub counted : Cell → Cell
counted cell = record cell { occurrences = cell.occurrences + 1 }

-- the bias computation (T.87 A.6.2): B is brought into -N < B <= 0, by one N and then to the nearer bound. C falls by one if B was too low,
-- and rises by one if B was too high. It stays from -128 to 127
abbrev pub bias_computed : Cell → Cell
bias_computed cell =
    let n = pos cell.occurrences in let b = cell.bias in let c = cell.correction in
    if int_le b (neg_ℤ n) then record cell { bias = int_max (b +ℤ n) (pos 1 -ℤ n); correction = int_max (c -ℤ pos 1) (negsuc 127) }
    else if int_lt (pos 0) b then record cell { bias = int_min (b -ℤ n) (pos 0); correction = int_min (c +ℤ pos 1) (pos 127) }
    else cell

-- a cell after an error: B += E, A += |E|; A, B, N halved if N is RESET; N += 1; then the bias computation (T.87 A.6)
unfoldable pub updated : ℕ → Cell → ℤ → Cell
updated reset cell e =
    let now = with_error cell e in
    bias_computed (counted (if (now.occurrences == reset) then halved now else now))
