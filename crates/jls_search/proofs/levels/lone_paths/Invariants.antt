use Rattle.std.proofs.Common.{◌≡◌, ◌<◌, length}
use Rattle.std.specs.Prelude.{IfSome}
use Rattle.std.specs.List.{AllByRecursion}
use Rattle.jls_search.specs.Faultless.{IsSought}
use Rattle.jls_search.specs.Levels.{IsLevel, IsLone}
use Rattle.jls_search.specs.Search.{IsKeptReader, lists_of}
use Rattle.jls_search.proofs.levels.lone_paths.Given as goal

abbrev pub invariant-levels : goal.invariant-levels
invariant-levels l = record {
  ceiling : l.judge.ceiling ≡ l.fn.ceiling;
  kept : IfSome l.judge.kept (IsKeptReader l.parts);
  level : IsLevel (IsSought l.judge.ceiling) l.parts l.level.count (lists_of l.level.living.items);
  lone : AllByRecursion (IsLone (IsSought l.judge.ceiling) l.parts) (lists_of l.lone.items);
  some : 0 < length (lists_of l.lone.items);
}
