use Rattle.std.proofs.Common.{List}
use Rattle.jls_diff.specs.Parts.{Part}
use Rattle.jls_search.specs.Search.{AreEachKept}
use Rattle.jls_search.proofs.group_search.no_readers.Given as goal

abbrev pub invariant-loop : goal.invariant-loop
invariant-loop l = (parts : List Part) → AreEachKept parts l.readers.items
