use Rattle.std.proofs.Common.{rules, ◌≡◌, ◌+◌, ◌∷◌, [], ◌++◌, length, ap, sym, ◌∙◌, arith}
use Rattle.std.proofs.lemmas.List.{append-nil}
use Rattle.jls_splice_run.specs.declared.differences.Difference.{Difference}
use Rattle.jls_splice_run.proofs.Offsets.{offset_one_more, offset_within, differ_found, same_found, found_more}
use Rattle.jls_splice_run.proofs.differences.differences_of.Goals as goal
use Rattle.jls_splice_run.proofs.differences.differences_of.Goals.{then-is_differ+in_ok-push, else-is_differ}

pub overflow_add-offset : goal.overflow_add-offset
overflow_add-offset c =
    let parts = c.args.parts.now in
    let i = c.loop-place.place in
    let more = offset_one_more parts i (omega arith) in
    let at_most = offset_within parts (i + 1) in
    let here = ap length c.way.ensures in
    omega (arith, more, at_most, here, c.loop-place.invariant.offset, c.requires)

pub loop-place-preserved : goal.loop-place-preserved
loop-place-preserved c =
    let parts = c.args.parts.now in
    let i = c.loop-place.place in
    let more = offset_one_more parts i (omega arith) in
    let here = ap length c.way.ensures in
    let size = length c.way.result.now in
    let this : Difference = record { offset = c.loop-place.offset; length = size } in
    record {
      found = elim c.if-is_differ.branch [
        | then-is_differ+in_ok-push w ↦
            let pushed : c.if-is_differ.found.items ≡ c.loop-place.found.items ++ this ∷ [] = search rules in
            found_more parts i c.loop-place.found.items (this ∷ []) c.if-is_differ.found.items c.loop-place.invariant.found
            (differ_found parts i c.is_differ.result c.loop-place.offset size c.is_differ.ensures w.if-is_differ.true
            c.loop-place.invariant.offset here) pushed
        | else-is_differ w ↦
            let kept : c.if-is_differ.found.items ≡ c.loop-place.found.items = search rules in
            found_more parts i c.loop-place.found.items [] c.if-is_differ.found.items c.loop-place.invariant.found
            (same_found parts i c.is_differ.result c.is_differ.ensures w.if-is_differ.false)
            (kept ∙ sym (append-nil c.loop-place.found.items))
      ];
      offset = omega (arith, more, here, c.loop-place.invariant.offset);
    }
