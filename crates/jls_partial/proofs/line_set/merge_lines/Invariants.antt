use Rattle.std.proofs.Common.{◌≡◌, take}
use Rattle.jls_partial.specs.LineSet.{with_lines, kept_lines}
use Rattle.jls_partial.proofs.line_set.merge_lines.Given as goal

-- the first i lines are taken
abbrev pub invariant-loop-i : goal.invariant-loop-i
invariant-loop-i l = l.into ≡ with_lines l.fn.into (take l.i (kept_lines l.other))
