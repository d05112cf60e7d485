use Rattle.std.proofs.Common.{◌≤◌, length}
use Rattle.jls_search.proofs.backing.place_for.Given as goal

abbrev pub invariant-loop-place : goal.invariant-loop-place
invariant-loop-place l = l.place ≤ length l.living

abbrev pub decreases-loop-place : goal.decreases-loop-place
decreases-loop-place l = l.place
