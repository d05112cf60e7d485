use Rattle.std.proofs.Common.{◌≡◌, ℕ, ◌≤◌, ◌<◌, get_or}
use Rattle.jls_copy.proofs.ff_search.next_ff_one_by_one.Given as goal

-- no byte before this one is FF
abbrev pub invariant-loop-place : goal.invariant-loop-place
invariant-loop-place l = (k : ℕ) → l.fn.from ≤ k → k < l.place → get_or l.bytes k 0 ≡ 0xFF → ⊥
