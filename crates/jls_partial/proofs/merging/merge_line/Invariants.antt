use Rattle.std.proofs.Common.{◌≡◌, map, take}
use Rattle.jls_partial.specs.Entries.{kept_at_place}
use Rattle.jls_partial.specs.LineSet.{kept_lines}
use Rattle.jls_partial.specs.Partial.{with_all}
use Rattle.jls_partial.proofs.merging.merge_line.Given as goal

-- the first i readings of the line are taken
abbrev pub invariant-loop-i : goal.invariant-loop-i
invariant-loop-i l = l.into ≡ with_all l.fn.into (map (kept_at_place l.at) (take l.i (kept_lines l.lines)))
