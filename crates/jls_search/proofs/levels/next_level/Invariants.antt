use Rattle.std.proofs.Common.{ℕ, ◌+◌, ◌≤◌, length, Vec, Global, take}
use Rattle.std.specs.List.{AllByRecursion}
use Rattle.jls_search.specs.Faultless.{IsSought}
use Rattle.jls_search.specs.Levels.{AreJudged, IsNextPath}
use Rattle.jls_search.specs.Search.{lists_of}
use Rattle.jls_search.proofs.levels.next_level.Given as goal

abbrev pub invariant-paths : goal.invariant-paths
invariant-paths l = record {
  left : l.begun.left ≤ l.fn.left;
  spent : length (lists_of l.begun.living.items) + l.begun.left ≤ l.fn.left;
  each : AllByRecursion (IsNextPath l.parts (l.level.count + 1)) (lists_of l.begun.living.items);
  judged : AllByRecursion
      (λ (path : Vec ℕ Global). AreJudged (IsSought l.judge.ceiling) l.parts (l.level.count + 1) (lists_of l.begun.living.items) path.items)
      (take l.path-index l.level.living.items);
}
