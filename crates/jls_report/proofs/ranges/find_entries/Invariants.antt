use Rattle.std.proofs.Common.{◌≡◌}
use Rattle.std.specs.List.{flat_map, range_with_len}
use Rattle.jls_report.specs.Report.{component_entries}
use Rattle.jls_report.proofs.ranges.find_entries.Given as goal

abbrev pub invariant-loop-component : goal.invariant-loop-component
invariant-loop-component l = l.found.items ≡ flat_map (component_entries l.partial) (range_with_len 0 l.component)
