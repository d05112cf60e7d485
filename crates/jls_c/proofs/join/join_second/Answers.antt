use Rattle.jls_c.proofs.Texts.{joined, join_longer, two_shapes}
use Rattle.jls_c.proofs.join.join_second.Goals as goal

pub returns-in-Ok-clause-done : goal.returns-in-Ok-clause-done
returns-in-Ok-clause-done c = λ done bytes is_text.
    joined c.args.first c.args.second.now _ _ _ _ bytes c.in-Ok.ensures.ok (c.put_partial.ensures.done done) is_text

pub returns-in-Ok-clause-short_room : goal.returns-in-Ok-clause-short_room
returns-in-Ok-clause-short_room c = λ short bytes is_text.
    join_longer c.args.first c.args.second.now _ _ _ bytes c.in-Ok.ensures.ok (c.put_partial.ensures.short_room short) is_text

pub returns-clause-shapes_differ : goal.returns-clause-shapes_differ
returns-clause-shapes_differ c = λ six bytes is_text.
    let other = rw c.in-Err-ShapeDiffers.field-0-is at c.in-Err-ShapeDiffers.ensures.refused in
    two_shapes c.args.first c.args.second.now bytes other is_text
