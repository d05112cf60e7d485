use Rattle.std.proofs.Common.{take}
use Rattle.std.specs.Prelude.{IfSome}
use Rattle.std.specs.List.{AllByRecursion}
use Rattle.jls_search.specs.Faultless.{IsSought}
use Rattle.jls_search.specs.LevelSearches.{IsFoundOrNot}
use Rattle.jls_search.specs.Search.{IsKeptReader, MakeFiles, lists_of}
use Rattle.jls_search.proofs.level_search.take_files.Given as goal

abbrev pub invariant-files : goal.invariant-files
invariant-files l = record {
  files : MakeFiles (IsSought l.ceiling) l.parts (lists_of l.found.splices.items);
  judged : AllByRecursion (IsFoundOrNot (IsSought l.ceiling) l.parts (lists_of l.found.splices.items)) (take l.path-index l.living);
  reader : IfSome l.found.reader (IsKeptReader l.parts);
}
