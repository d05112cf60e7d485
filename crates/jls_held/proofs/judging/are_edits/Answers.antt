use Rattle.std.proofs.Common.{subst, arith}
use Rattle.jls_held.specs.Edits.{AreEdits}
use Rattle.jls_held.specs.Mending.{edit_of}
use Rattle.jls_held.proofs.MendedCopies.{within, left_more}
use Rattle.jls_held.proofs.judging.are_edits.Goals.{then-edit-at-via-then-edit-at, then-edit-at-via-else-edit-at+then-length-edit}
use Rattle.jls_held.proofs.judging.are_edits.Goals.{then-edit-at-via-else-edit-at+else-length-edit+then-length-edit-2}
use Rattle.jls_held.proofs.judging.are_edits.Goals as goal

-- an edit begins too early, or ends outside of the copy
pub returns-then-edit-at : goal.returns-then-edit-at
returns-then-edit-at c = λ are.
    let l = c.loop-edit in
    let left = subst (AreEdits l.at c.args.length)
    (left_more edit_of c.args.edits.now l.edit-index c.edit-item.result c.loop-edit-test.true c.edit-item.is) (l.invariant.needed are) in
    let low = left.0 in let high = within _ _ _ left.1 in
    elim c.then-edit-at.branch [
      | then-edit-at-via-then-edit-at w ↦ (let t = w.if-edit-at.true in omega (arith, low, t))
      | then-edit-at-via-else-edit-at+then-length-edit w ↦ (let t = w.if-length-edit.true in omega (arith, high, t))
      | then-edit-at-via-else-edit-at+else-length-edit+then-length-edit-2 w ↦ (let t = w.if-length-edit-2.true in omega (arith, high, t))
    ]
