use Rattle.jls_search.specs.Search.{AreEachKept, lists_of}
use Rattle.jls_search.specs.OfGroups.{AreOfGroups}
use Rattle.jls_search.specs.GroupTries.{GoesThroughCopies}
use Rattle.jls_search.proofs.group_search.search_group.Given as goal

abbrev pub invariant-loop-copy : goal.invariant-loop-copy
invariant-loop-copy l = record {
  splices : AreOfGroups l.parts (lists_of l.searched.splices.items);
  kept : AreEachKept l.parts l.kept.items;
  goes : GoesThroughCopies l.extent.most_tries l.copy l.parts l.group l.initial.searched l.searched;
}
