use Rattle.std.proofs.Common.{ℕ, ◌≤◌, ◌<◌, ◌-◌, length}
use Rattle.jls_copy.specs.ScanData.{IsCutPlace}
use Rattle.jls_copy.proofs.cut_search.next_cut.Given as goal

-- no place before this one is one of a cut
abbrev pub invariant-loop-at : goal.invariant-loop-at
invariant-loop-at l = (l.fn.from ≤ l.at) × ((other : ℕ) → l.fn.from ≤ other → other < l.at → IsCutPlace l.bytes other → ⊥)

abbrev pub decreases-loop-at : goal.decreases-loop-at
decreases-loop-at l = length l.bytes - l.at
