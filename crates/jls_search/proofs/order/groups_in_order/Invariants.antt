use Rattle.std.proofs.Common.{◌++◌, take}
use Rattle.std.specs.List.{AllByRecursion}
use Rattle.std.specs.List.Sorted.{IsPermutation}
use Rattle.jls_diff.specs.Groups.{IsGroup}
use Rattle.jls_search.proofs.order.groups_in_order.Given as goal

abbrev pub invariant-loop-number : goal.invariant-loop-number
invariant-loop-number l = record {
  ordered : AllByRecursion (IsGroup l.parts) l.ordered.items;
  others : AllByRecursion (IsGroup l.parts) l.others.items;
  same : IsPermutation (take l.number l.groups) (l.ordered.items ++ l.others.items);
}
