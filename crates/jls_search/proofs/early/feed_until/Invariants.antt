use Rattle.std.proofs.Common.{◌≡◌, ℕ, List, ◌++◌, length}
use Rattle.jls_copy.specs.ReadCopy.{after}
use Rattle.jls_search.proofs.early.feed_until.Given as goal

abbrev pub invariant-loop-rest : goal.invariant-loop-rest
invariant-loop-rest l = (begin : List ℕ) × (l.way ≡ begin ++ l.rest) × (l.reader ≡ after l.fn.reader begin)

abbrev pub decreases-loop-rest : goal.decreases-loop-rest
decreases-loop-rest l = length l.rest
