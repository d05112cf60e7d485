use Rattle.std.proofs.Common.{sym, ap, ◌∙◌}
use Rattle.std.proofs.lemmas.Result.{err_from_is_err_and}
use Rattle.jls_values.proofs.Joins.{join_all-take_more, AllOfShape-take_more, stops_at_shape, stops_inside, not_false-true}
use Rattle.jls_values.proofs.merge.merge_all.Goals as goal

-- one member more is merged
pub loop-one-preserved : goal.loop-one-preserved
loop-one-preserved g c =
    let m = g.M.Merge in
    let more = join_all-take_more m.join c.args.into.now c.args.list.now c.loop-one.one-index c.one-item.result c.loop-one-test.true
    c.one-item.is in
    record {
      held = c.in_ok-merge.ensures.ok ∙ ap (λ z. m.join z c.one-item.result) c.loop-one.invariant.held ∙ sym more;
      members = AllOfShape-take_more m.same_shape c.args.into.now c.args.list.now c.loop-one.one-index c.one-item.result
          c.loop-one-test.true c.one-item.is
          c.loop-one.invariant.members (m.laws.transitive _ _ _ c.loop-one.invariant.shape c.in_ok-merge.ensures.ok_same_shape);
      shape = m.laws.transitive _ _ _ c.loop-one.invariant.shape c.in_ok-merge.ensures.keeps_shape;
    }

-- a member has another shape
pub returns-in_err-merge-clause-shape_differs : goal.returns-in_err-merge-clause-shape_differs
returns-in_err-merge-clause-shape_differs g c =
    let p = err_from_is_err_and c.from_residual.result c.from_residual.ensures.1 in
    rw (p.1, p.2) (λ h. stops_at_shape g.M.Merge.laws c.args.into.now c.loop-one.into c.one-item.result c.args.list.now c.loop-one.one-index
    c.loop-one-test.true c.one-item.is
    c.loop-one.invariant.members c.loop-one.invariant.shape (c.in_err-merge.ensures.shape_differs.0 h) c.merge.new.self
    (c.in_err-merge.ensures.unchanged h ∙ c.loop-one.invariant.held))

-- memory ran out at a member
pub returns-in_err-merge-clause-out_of_memory : goal.returns-in_err-merge-clause-out_of_memory
returns-in_err-merge-clause-out_of_memory g c =
    let p = err_from_is_err_and c.from_residual.result c.from_residual.ensures.1 in
    rw (p.1, p.2) (λ h. stops_inside g.M.Merge.laws c.args.into.now c.loop-one.into c.one-item.result c.args.list.now c.loop-one.one-index
    c.loop-one-test.true c.one-item.is
    c.loop-one.invariant.members c.loop-one.invariant.held c.loop-one.invariant.shape
    (not_false-true _ (λ differs. let e = sym h ∙ c.in_err-merge.ensures.shape_differs.1 differs in absurd cc)) c.merge.new.self
    (c.in_err-merge.ensures.out_of_memory h))
