use Rattle.std.proofs.Common.{◌≡◌}
use Rattle.jls_partial.specs.Marking.{readings_of_lines}
use Rattle.jls_partial.specs.Partial.{with_marks}
use Rattle.jls_partial.proofs.marking.mark_component.Given as goal

-- the readings of the lines so far have the source
abbrev pub invariant-loop-line : goal.invariant-loop-line
invariant-loop-line l = l.partial ≡ with_marks l.fn.partial l.source (readings_of_lines l.fn.partial l.component l.line)
