use Rattle.std.proofs.Common.{◌≡◌}
use Rattle.std.specs.List.{flat_map, range_with_len}
use Rattle.jls_c.specs.Lines.{lines_of_component}
use Rattle.jls_c.proofs.lines.lines_of.Given as goal

abbrev pub invariant-loop-component : goal.invariant-loop-component
invariant-loop-component l = l.lines.items ≡ flat_map (lines_of_component l.partial) (range_with_len 0 l.component)
