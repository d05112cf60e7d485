use Rattle.std.proofs.Common.{List}
use Rattle.std.specs.List.{AllByRecursion}
use Rattle.jls_diff.specs.Parts.{Part}
use Rattle.jls_search.specs.Search.{IsKeptReader}
use Rattle.jls_search.proofs.reading_splices.take_begun.Given as goal

abbrev pub invariant-loop : goal.invariant-loop
invariant-loop l =
    (parts : List Part) → AllByRecursion (IsKeptReader parts) l.fn.kept.items → AllByRecursion (IsKeptReader parts) l.kept.items
