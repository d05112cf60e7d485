use Rattle.std.proofs.Common.{◌≡◌, ◌++◌}
use Rattle.std.specs.List.{flat_map, range_with_len}
use Rattle.jls_report.specs.Report.{entries_at}
use Rattle.jls_report.proofs.ranges.push_component.Given as goal

abbrev pub invariant-loop-line : goal.invariant-loop-line
invariant-loop-line l = l.found.items ≡ l.fn.found.items ++ flat_map (entries_at l.partial l.component) (range_with_len 0 l.line)
