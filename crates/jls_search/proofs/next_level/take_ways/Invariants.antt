use Rattle.std.proofs.Common.{◌≡◌, ℕ, ◌+◌, ◌-◌, ◌<◌, false, List, [], ◌∷◌, ◌++◌, length, get_or}
use Rattle.std.specs.List.{AllByRecursion, Contains}
use Rattle.jls_diff.specs.Parts.{Same}
use Rattle.jls_search.specs.Choices.{IsFirstWay}
use Rattle.jls_search.specs.Faultless.{IsSought}
use Rattle.jls_search.specs.Levels.{AreJudged}
use Rattle.jls_search.specs.LevelSearches.{IsLiving, paths_of}
use Rattle.jls_search.proofs.next_level.take_ways.Given as goal

abbrev pub invariant-ways : goal.invariant-ways
invariant-ways l = record {
  first : IsFirstWay (get_or l.parts (length l.from.kept.choices.items) (Same [])) l.choice;
  each : AllByRecursion (IsLiving l.parts (length l.from.kept.choices.items + 1)) l.next.living.items;
  unused : l.next.is_used_up ≡ false → l.fn.next.is_used_up ≡ false;
  still : l.next.is_used_up ≡ false → (other : List ℕ) → Contains (paths_of l.fn.next.living.items) other
      → Contains (paths_of l.next.living.items) other;
  before : l.next.is_used_up ≡ false → (choice : ℕ) → choice < l.choice
      → IsFirstWay (get_or l.parts (length l.from.kept.choices.items) (Same [])) choice
      → AreJudged (IsSought l.rules.ceiling) l.parts (length l.from.kept.choices.items + 1) (paths_of l.next.living.items)
      (l.from.kept.choices.items ++ choice ∷ []);
}

abbrev pub decreases-ways : goal.decreases-ways
decreases-ways l = l.rules.tries - l.next.tries
