use Rattle.std.proofs.Common.{◌<◌, ◌≤◌, ℕ}
use Rattle.std.specs.List.{All}
use Rattle.jls_write.specs.Picture.{line_of}
use Rattle.jls_write.proofs.options.is_component_within.Given as goal

-- no sample of the lines so far is above the value
abbrev pub invariant-loop-line : goal.invariant-loop-line
invariant-loop-line l = (k : ℕ) → k < l.line → All (λ sample. sample ≤ l.most) (line_of l.picture l.component k)
