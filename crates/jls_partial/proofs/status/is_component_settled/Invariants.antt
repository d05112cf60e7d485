use Rattle.std.proofs.Common.{◌≡◌, ◌<◌, ℕ, length}
use Rattle.jls_partial.specs.Partial.{readings_at}
use Rattle.jls_partial.proofs.status.is_component_settled.Given as goal

-- the lines so far have one reading each
abbrev pub invariant-loop-line : goal.invariant-loop-line
invariant-loop-line l = (line : ℕ) → line < l.line → length (readings_at l.partial l.component line) ≡ 1
