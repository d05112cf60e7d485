use Rattle.std.proofs.Common.{◌<◌, ℕ}
use Rattle.jls_partial.specs.Status.{IsComponentSettled}
use Rattle.jls_write.proofs.picture.first_unsettled.Given as goal

-- the components so far are settled
abbrev pub invariant-loop-component : goal.invariant-loop-component
invariant-loop-component l = (component : ℕ) → component < l.component → IsComponentSettled l.partial component
