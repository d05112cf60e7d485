use Rattle.std.proofs.Common.{ap, sym, ◌∙◌, ◌<◌, arith}
use Rattle.std.specs.Prelude.{length, nat_lt, not}
use Rattle.std.proofs.lemmas.Bool.{lt-ltb}
use Rattle.std.proofs.lemmas.List.{length-map}
use Rattle.jls_held.specs.Judging.{EditedCopy, edited_copy_of}
use Rattle.jls_held.specs.Mending.{edit_of}
use Rattle.jls_carried.proofs.MappedLists.{fails_at}
use Rattle.jls_carried.proofs.coding_lines.has_each_a_line.Goals as goal

pub returns-then-len-gt-MOST_LINES : goal.returns-then-len-gt-MOST_LINES
returns-then-len-gt-MOST_LINES c =
    let v = c.copy-item.result in
    let held = v.edits.ok.0 in
    let counted = length-map v.edits.items edit_of in
    let more : 4096 < length (edited_copy_of v).edits = omega (arith, c.if-len-gt-MOST_LINES.true, c.len.ensures, held, counted) in
    sym (fails_at (λ (e : EditedCopy). not (nat_lt 4096 (length e.edits))) edited_copy_of c.args.copies.now c.loop-copy.copy-index v
    c.loop-copy-test.true (ap (λ (x : _). not (nat_lt 4096 (length (edited_copy_of x).edits))) (sym c.copy-item.is)
    ∙ ap not (lt-ltb 4096 (length (edited_copy_of v).edits) more)))
