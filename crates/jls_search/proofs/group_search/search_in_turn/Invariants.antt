use Rattle.std.proofs.Common.{take}
use Rattle.jls_search.specs.Search.{AreEachKept, lists_of}
use Rattle.jls_search.specs.OfGroups.{AreOfGroups}
use Rattle.jls_search.specs.GroupTries.{AreGroupsSearched}
use Rattle.jls_search.proofs.group_search.search_in_turn.Given as goal

abbrev pub invariant-loop-group : goal.invariant-loop-group
invariant-loop-group l = record {
  splices : AreOfGroups l.parts (lists_of l.searched.splices.items);
  kept : AreEachKept l.parts l.kept.items;
  searched : AreGroupsSearched l.extent.most_tries l.extent.copies l.parts (take l.group-index l.groups) l.searched.tries
      (lists_of l.searched.splices.items) l.searched.is_used_up;
}
