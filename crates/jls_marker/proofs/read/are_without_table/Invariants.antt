use Rattle.std.proofs.Common.{◌≡◌, length}
use Rattle.std.specs.Prelude.{◌==◌}
use Rattle.std.specs.List.{list_all}
use Rattle.jls_marker.specs.Layouts.{scan_components}
use Rattle.jls_marker.proofs.read.are_without_table.Given as goal

-- no component so far has a table, so the answer is that of the rest
abbrev pub invariant-loop-rest : goal.invariant-loop-rest
invariant-loop-rest l = list_all (λ c. c.table == 0) (scan_components l.rest) ≡ list_all (λ c. c.table == 0) (scan_components l.components)

abbrev pub decreases-loop-rest : goal.decreases-loop-rest
decreases-loop-rest l = length l.rest
