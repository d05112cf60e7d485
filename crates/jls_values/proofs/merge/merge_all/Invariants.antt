use Rattle.std.proofs.Common.{◌≡◌, true, take}
use Rattle.jls_values.specs.Join.{join_all, AllOfShape}
use Rattle.jls_values.proofs.merge.merge_all.Given as goal

-- the members before this one are merged, and are of one shape
abbrev pub invariant-loop-one : goal.invariant-loop-one
invariant-loop-one g l = record {
  held : l.into ≡ join_all g.M.Merge.join l.fn.into (take l.one-index l.list);
  members : AllOfShape g.M.Merge.same_shape l.fn.into (take l.one-index l.list);
  shape : g.M.Merge.same_shape l.fn.into l.into ≡ true;
}
