use Rattle.std.proofs.Common.{◌<◌, ◌≤◌, ℕ}
use Rattle.std.specs.List.{All}
use Rattle.jls_write.specs.Picture.{line_of}
use Rattle.jls_write.proofs.options.is_within.Given as goal

-- no sample of the components so far is above the value
abbrev pub invariant-loop-component : goal.invariant-loop-component
invariant-loop-component l = (k : ℕ) → k < l.component → (line : ℕ) → line < l.picture.shape.height
    → All (λ sample. sample ≤ l.most) (line_of l.picture k line)
