use Rattle.std.proofs.Common.{◌≡◌, ◌++◌, ◌+◌, length, drop, subst, arith}
use Rattle.jls_held.specs.Edits.{AreEdits, edited}
use Rattle.jls_held.specs.Mending.{edit_of, edits_of}
use Rattle.jls_held.proofs.MendedCopies.{within, left_more, bytes_put, held_put}
use Rattle.jls_held.proofs.mending.mended_copy.Goals as goal

-- the edit begins at or after the place in hand, and ends within the copy
pub slice_bounds-put-end : goal.slice_bounds-put-end
slice_bounds-put-end c =
    let l = c.loop-edit in
    let edits = subst (AreEdits l.at (length c.args.copy.now)) (left_more edit_of c.args.edits.now l.edit-index c.edit-item.result c.loop-edit-test.true c.edit-item.is) l.invariant.edits in
    let low = edits.0 in let high = within _ _ _ edits.1 in omega (arith, low, high)

-- the edit ends within the copy, so that the sum is small
pub overflow_add-at : goal.overflow_add-at
overflow_add-at c =
    let l = c.loop-edit in
    let edits = subst (AreEdits l.at (length c.args.copy.now)) (left_more edit_of c.args.edits.now l.edit-index c.edit-item.result c.loop-edit-test.true c.edit-item.is) l.invariant.edits in
    let high = within _ _ _ edits.1 in omega (arith, high)

-- one edit more: what is put, with what the edits left make, is the whole
pub loop-edit-preserved : goal.loop-edit-preserved
loop-edit-preserved c =
    let l = c.loop-edit in let copy = c.args.copy.now in
    let more = left_more edit_of c.args.edits.now l.edit-index c.edit-item.result c.loop-edit-test.true c.edit-item.is in
    let edits = subst (AreEdits l.at (length copy)) more l.invariant.edits in
    record {
      edits = edits.1;
      bytes = bytes_put l.at copy _ (edits_of (drop (l.edit-index + 1) c.args.edits.now)) edits.0 l.mended.bytes.items _ _ _ _
          c.in_ok-put.ensures.bytes c.in_ok-put-2.ensures.bytes c.deref.ensures.value
          (subst (λ es. l.mended.bytes.items ++ (edited l.at (drop l.at copy) es).bytes ≡ (edited 0 copy (edits_of c.args.edits.now)).bytes) more
          l.invariant.bytes);
      held = held_put l.at copy _ (edits_of (drop (l.edit-index + 1) c.args.edits.now)) edits.0 l.mended.held.items _ _ _ _
          c.in_ok-put.ensures.held c.in_ok-put-2.ensures.held c.deref.ensures.value
          (subst (λ es. l.mended.held.items ++ (edited l.at (drop l.at copy) es).held ≡ (edited 0 copy (edits_of c.args.edits.now)).held) more
          l.invariant.held);
    }
