use Rattle.std.proofs.Common.{take}
use Rattle.std.specs.List.{AllByRecursion}
use Rattle.jls_search.specs.Search.{IsKeptReader, files_of, lists_of}
use Rattle.jls_search.specs.Reading.{ReadsMore}
use Rattle.jls_search.proofs.reading_splices.read_splices.Given as goal

abbrev pub invariant-loop-number : goal.invariant-loop-number
invariant-loop-number l = record {
  read : ReadsMore l.source (files_of l.files.parts.now (lists_of (take l.number l.files.splices.now))) l.fn.before l.read;
  kept : AllByRecursion (IsKeptReader l.files.parts.now) l.kept.items;
}
