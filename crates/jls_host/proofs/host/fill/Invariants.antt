use Rattle.std.proofs.Common.{length, ◌-◌, ◌≤◌}
use Rattle.jls_host.proofs.host.fill.Given as goal

-- no more is filled than there is room for
abbrev pub invariant-loop-filled : goal.invariant-loop-filled
invariant-loop-filled l = l.filled ≤ length l.into

abbrev pub decreases-loop-filled : goal.decreases-loop-filled
decreases-loop-filled l = length l.into - l.filled
