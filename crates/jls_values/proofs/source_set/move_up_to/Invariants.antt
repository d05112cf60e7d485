use Rattle.std.proofs.Common.{◌≡◌, ◌+◌, ◌++◌, take, vec_len, vec_capacity}
use Rattle.jls_values.proofs.source_set.move_up_to.Given as goal

-- the first i numbers are moved
abbrev pub invariant-loop-i : goal.invariant-loop-i
invariant-loop-i l = record {
  moved : l.numbers.items ≡ l.fn.numbers.items ++ take l.i l.above;
  len : vec_len l.numbers ≡ vec_len l.fn.numbers + l.i;
  capacity : vec_capacity l.numbers ≡ vec_capacity l.fn.numbers;
}
