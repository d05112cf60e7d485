use Rattle.std.proofs.Common.{◌≡◌, ℕ, ◌≤◌, ◌<◌, ◌-◌, get_or, length}
use Rattle.jls_copy.proofs.ff_search.next_ff.Given as goal

-- no byte before this one is FF
abbrev pub invariant-loop-at : goal.invariant-loop-at
invariant-loop-at l = (l.fn.from ≤ l.at) × (l.at ≤ length l.bytes) × ((k : ℕ) → l.fn.from ≤ k → k < l.at → get_or l.bytes k 0 ≡ 0xFF → ⊥)

abbrev pub decreases-loop-at : goal.decreases-loop-at
decreases-loop-at l = length l.bytes - l.at
