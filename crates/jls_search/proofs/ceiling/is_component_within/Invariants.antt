use Rattle.std.proofs.Common.{◌<◌, ℕ}
use Rattle.jls_search.specs.Faultless.{IsLineWithin}
use Rattle.jls_search.proofs.ceiling.is_component_within.Given as goal

abbrev pub invariant-loop-line : goal.invariant-loop-line
invariant-loop-line l = (line : ℕ) → line < l.line → IsLineWithin l.ceiling l.partial l.component line
