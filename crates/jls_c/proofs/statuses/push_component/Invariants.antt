use Rattle.std.proofs.Common.{◌≡◌, ◌++◌, map}
use Rattle.std.specs.List.{range_with_len}
use Rattle.jls_c.specs.Lines.{line_status}
use Rattle.jls_c.proofs.statuses.push_component.Given as goal

abbrev pub invariant-loop-line : goal.invariant-loop-line
invariant-loop-line l = l.statuses.items ≡ l.fn.statuses.items ++ map (line_status l.partial l.component) (range_with_len 0 l.line)
