use Rattle.std.proofs.Common.{ℕ, List, length}
use Rattle.jls_search.specs.Tried.{IsSetFor, IsSetWholeFor}
use Rattle.jls_search.specs.Order.{IsLater}
use Rattle.jls_search.proofs.path.backtrack.Given as goal

abbrev pub invariant-loop-choice : goal.invariant-loop-choice
invariant-loop-choice l = record {
  set : IsSetFor l.parts l.goal l.path.items;
  after : (choices : List ℕ) → IsSetWholeFor l.parts l.goal choices → IsLater l.fn.path.items choices
      → IsLater l.path.items choices;
  back : (next : List ℕ) → IsLater l.path.items next → IsLater l.fn.path.items next;
}

abbrev pub decreases-loop-choice : goal.decreases-loop-choice
decreases-loop-choice l = length l.path.items
