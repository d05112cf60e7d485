use Rattle.std.proofs.Common.{◌≡◌, ℕ, List, ◌++◌, length, ◌-◌}
use Rattle.jls_search.specs.Tried.{AreFixed, IsSetFor, IsSetWholeFor}
use Rattle.jls_search.specs.Order.{IsToCome}
use Rattle.jls_search.proofs.path.follow.Given as goal

abbrev pub invariant-loop-path : goal.invariant-loop-path
invariant-loop-path l = record {
  set : IsSetFor l.parts l.goal l.path.items;
  kept : (choices : List ℕ) → IsSetWholeFor l.parts l.goal choices → IsToCome l.fn.path.items choices
      → IsToCome l.path.items choices;
  grew : (more : List ℕ) × (l.path.items ≡ l.fn.path.items ++ more);
  fixed : AreFixed l.parts l.goal (length l.fn.path.items) (length l.path.items);
}

abbrev pub decreases-loop-path : goal.decreases-loop-path
decreases-loop-path l = length l.parts - length l.path.items
