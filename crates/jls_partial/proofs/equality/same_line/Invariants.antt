use Rattle.std.proofs.Common.{◌≡◌, take}
use Rattle.jls_partial.specs.LineSet.{kept_lines}
use Rattle.jls_partial.proofs.equality.same_line.Given as goal

-- the first i readings are the same in both
abbrev pub invariant-loop-i : goal.invariant-loop-i
invariant-loop-i l = take l.i (kept_lines l.one) ≡ take l.i (kept_lines l.other)
