use Rattle.std.proofs.Common.{◌≡◌}
use Rattle.jls_partial.specs.Marking.{readings_of_components}
use Rattle.jls_partial.specs.Partial.{with_marks}
use Rattle.jls_partial.proofs.marking.mark_components.Given as goal

-- the readings of the components so far have the source
abbrev pub invariant-loop-component : goal.invariant-loop-component
invariant-loop-component l = l.partial ≡ with_marks l.fn.partial l.source (readings_of_components l.fn.partial l.component)
