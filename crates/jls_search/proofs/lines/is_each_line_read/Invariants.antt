use Rattle.std.proofs.Common.{◌<◌, ℕ}
use Rattle.jls_search.specs.Faultless.{IsComponentRead}
use Rattle.jls_search.proofs.lines.is_each_line_read.Given as goal

abbrev pub invariant-loop-component : goal.invariant-loop-component
invariant-loop-component l = (component : ℕ) → component < l.component → IsComponentRead l.partial component
