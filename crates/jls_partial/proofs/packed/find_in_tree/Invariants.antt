use Rattle.std.proofs.Common.{length}
use Rattle.jls_partial.proofs.Searches.{IsLeft}
use Rattle.jls_partial.proofs.packed.find_in_tree.Given as goal

-- if the samples are held, or where they belong, is in the rest of the tree
abbrev pub invariant-loop-left : goal.invariant-loop-left
invariant-loop-left l = IsLeft l.width l.packed l.tree l.rest l.before l.samples

abbrev pub decreases-loop-left : goal.decreases-loop-left
decreases-loop-left l = length l.rest
