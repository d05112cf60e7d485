use Rattle.std.proofs.Common.{◌≡◌}
use Rattle.std.specs.List.{flat_map, range_with_len}
use Rattle.jls_c.specs.Lines.{component_statuses}
use Rattle.jls_c.proofs.statuses.statuses_of.Given as goal

abbrev pub invariant-loop-component : goal.invariant-loop-component
invariant-loop-component l = l.statuses.items ≡ flat_map (component_statuses l.partial) (range_with_len 0 l.component)
