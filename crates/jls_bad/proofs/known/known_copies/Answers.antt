use Rattle.std.proofs.Common.{◌≡◌, ◌∙◌, ℕ, ◌+◌, List, length, get_or, take, sym, ap, subst, arith}
use Rattle.std.specs.List.{AllZip}
use Rattle.jls_bad.specs.Known.{IsKnownCopy}
use Rattle.jls_bad.specs.Copies.{bytes_in, copies_of}
use Rattle.jls_bad.specs.Inside.{IsFilled, marked_byte_for}
use Rattle.jls_bad.specs.declared.filling.Marked.{Marked}
use Rattle.jls_bad.proofs.KnownLoop.{known_more, bytes_push}
use Rattle.jls_bad.proofs.known.known_copies.Goals as goal

pub loop-copy-preserved : goal.loop-copy-preserved
loop-copy-preserved c =
    let marked : List Marked = c.in_ok-marked.marked.items in
    let m : Marked = c.copy-item.result in
    let same : c.deref-copy-items.result.now ≡ marked = c.deref-copy-items.ensures.value in
    let count : length c.deref-copy-items.result.now ≡ length marked = ap length same in
    let filled : IsFilled (marked_byte_for marked m) (length m.bytes.now) c.in_ok-fill.field-0.bytes.items c.in_ok-fill.field-0.is_lost.items =
    subst (λ ms. IsFilled (marked_byte_for ms m) (length m.bytes.now) c.in_ok-fill.field-0.bytes.items c.in_ok-fill.field-0.is_lost.items) c.deref-in-loop-copy.ensures.value c.in_ok-fill.ensures in
    let P : List (List ℕ) → Type 0 = λ files. AllZip (IsKnownCopy (copies_of c.args.copies.now)) (take (c.loop-copy.copy-index + 1) (copies_of c.args.copies.now)) files in
    subst P (sym (ap bytes_in c.in_ok-push.ensures.items ∙ bytes_push c.loop-copy.known.items c.chosen.result))
    (known_more c.args.copies.now marked c.loop-copy.copy-index m c.in_ok-fill.field-0.bytes.items c.in_ok-fill.field-0.is_lost.items c.chosen.result.items (bytes_in c.loop-copy.known.items) c.in_ok-marked.ensures
    (omega (arith, count, c.loop-copy-test.true)) (c.copy-item.is ∙ ap (λ ms. get_or ms c.loop-copy.copy-index m) same) filled c.chosen.ensures c.loop-copy.invariant)
