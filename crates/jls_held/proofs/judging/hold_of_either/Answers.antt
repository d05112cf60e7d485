use Rattle.std.proofs.Common.{◌+◌, ◌∙◌, true, length, sym, ap, subst, arith}
use Rattle.std.proofs.lemmas.List.{length-set}
use Rattle.jls_held.specs.Edits.{held_by_either}
use Rattle.jls_held.proofs.HeldMarks.{IsMergedTo, mark_set, mark_kept}
use Rattle.jls_held.proofs.judging.hold_of_either.Goals.{then-others-i, else-others-i}
use Rattle.jls_held.proofs.judging.hold_of_either.Goals as goal

-- one mark more is that of either
pub loop-i-preserved : goal.loop-i-preserved
loop-i-preserved c =
    let l = c.loop-i in let others = c.args.others.now in let total = held_by_either c.args.held.now.items others in
    let long = l.invariant.as_long in let inside = c.loop-i-test.true in
    elim c.if-others-i.branch [
      | then-others-i w ↦ record {
        as_long = ap (λ v. length v.items) w.held-is ∙ (length-set l.held.items l.i true ∙ long);
        merged = subst (λ v. IsMergedTo total others (l.i + 1) v.items) (sym w.held-is)
            (mark_set total others l.held.items l.i (omega (arith, long, inside)) inside w.if-others-i.true l.invariant.merged);
      }
      | else-others-i w ↦ record {
        as_long = ap (λ v. length v.items) w.held-is ∙ long;
        merged = subst (λ v. IsMergedTo total others (l.i + 1) v.items) (sym w.held-is)
            (mark_kept total others l.held.items l.i (omega (arith, long, inside)) inside w.if-others-i.false l.invariant.merged);
      }
    ]
