use Rattle.std.proofs.Common.{◌<◌, ℕ, length}
use Rattle.jls_partial.specs.Partial.{readings_at}
use Rattle.jls_search.proofs.lines.is_component_read.Given as goal

abbrev pub invariant-loop-line : goal.invariant-loop-line
invariant-loop-line l = (line : ℕ) → line < l.line → 0 < length (readings_at l.partial l.component line)
