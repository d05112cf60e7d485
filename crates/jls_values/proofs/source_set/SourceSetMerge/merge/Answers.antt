use Rattle.std.proofs.Common.{[], sym, subst, refl}
use Rattle.std.specs.Ordering.{nat_cmp}
use Rattle.jls_values.specs.Join.{IsBetween}
use Rattle.jls_values.specs.OrderedSet as set
use Rattle.jls_values.proofs.SourceLists.{prefix_between}
use Rattle.jls_values.proofs.source_set.SourceSetMerge.merge.Goals as goal

-- memory ran out, and nothing has changed
pub returns-in-Err-clause-out_of_memory : goal.returns-in-Err-clause-out_of_memory
returns-in-Err-clause-out_of_memory c = λ _.
    let others = set.items c.args.other.now in
    let between : IsBetween set.union c.args.self.now c.args.self.now (set.union c.args.self.now c.args.other.now) =
    prefix_between c.args.self.now [] others others refl in
    subst (λ (s : set.OrderedSet nat_cmp). IsBetween set.union c.args.self.now s (set.union c.args.self.now c.args.other.now))
    (sym c.in-Err.ensures.unchanged) between
