use Rattle.std.proofs.Common.{ℕ, ◌+◌, ◌<◌, ◌≤◌, List, [], ◌∷◌, ◌++◌, length, get_or}
use Rattle.std.specs.List.{AllByRecursion, Contains}
use Rattle.jls_diff.specs.Parts.{Same}
use Rattle.jls_search.specs.Choices.{IsFirstWay}
use Rattle.jls_search.specs.Faultless.{IsSought}
use Rattle.jls_search.specs.Levels.{AreJudged, IsNextPath}
use Rattle.jls_search.specs.Search.{lists_of}
use Rattle.jls_search.proofs.levels.take_ways.Given as goal

abbrev pub invariant-ways : goal.invariant-ways
invariant-ways l = record {
  left : l.begun.left ≤ l.fn.begun.left;
  spent : length (lists_of l.begun.living.items) + l.begun.left ≤ length (lists_of l.fn.begun.living.items) + l.fn.begun.left;
  first : IsFirstWay (get_or l.parts (length l.path) (Same [])) l.choice;
  each : AllByRecursion (IsNextPath l.parts (length l.path + 1)) (lists_of l.begun.living.items);
  still : (other : List ℕ) → Contains (lists_of l.fn.begun.living.items) other → Contains (lists_of l.begun.living.items) other;
  before : (choice : ℕ) → choice < l.choice → IsFirstWay (get_or l.parts (length l.path) (Same [])) choice
      → AreJudged (IsSought l.judge.ceiling) l.parts (length l.path + 1) (lists_of l.begun.living.items) (l.path ++ choice ∷ []);
}

abbrev pub decreases-ways : goal.decreases-ways
decreases-ways l = l.begun.left
