use Rattle.std.proofs.Common.{◌≡◌, ◌<◌, ℕ, length}
use Rattle.jls_partial.specs.Partial.{readings_at}
use Rattle.jls_write.proofs.picture.unsettled_line.Given as goal

-- the lines so far have one reading each
abbrev pub invariant-loop-line : goal.invariant-loop-line
invariant-loop-line l = (k : ℕ) → k < l.line → length (readings_at l.partial l.component k) ≡ 1
