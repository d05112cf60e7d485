use Rattle.std.proofs.Common.{◌≡◌, ◌+◌, false, take}
use Rattle.std.specs.List.{AllByRecursion}
use Rattle.jls_search.specs.Faultless.{IsSought}
use Rattle.jls_search.specs.LevelSearches.{AreGoneOn, IsLiving, paths_of}
use Rattle.jls_search.proofs.next_level.next_level.Given as goal

abbrev pub invariant-paths : goal.invariant-paths
invariant-paths l = record {
  each : AllByRecursion (IsLiving l.parts (l.count + 1)) l.next.living.items;
  unused : l.next.is_used_up ≡ false → l.fn.begun.is_used_up ≡ false;
  judged : l.next.is_used_up ≡ false → AreGoneOn (IsSought l.rules.ceiling) l.parts (l.count + 1) (take l.from-index l.living)
      (paths_of l.next.living.items);
}
