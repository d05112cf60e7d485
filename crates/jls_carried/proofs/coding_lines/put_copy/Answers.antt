use Rattle.std.proofs.Common.{◌≡◌, ◌++◌, List, length, take, ap, sym, ◌∙◌, arith}
use Rattle.std.specs.List.{flat_map}
use Rattle.std.proofs.lemmas.List.{append_assoc, length-map, take-map}
use Rattle.std.proofs.lemmas.Result.{on_ok_weaker}
use Rattle.jls_held.specs.Mending.{edit_of, edits_of}
use Rattle.jls_carried.specs.CodingLines.{edit_line, more_edits_line}
use Rattle.jls_carried.proofs.coding_lines.put_copy.Goals as goal

pub returns : goal.returns
returns c =
    let copy = c.args.copy.now in
    let out = c.args.out.now.items in
    let n = copy.number in
    let edits = copy.edits.items in
    let first : edits_of c.first_ones.result.now ≡ take 4096 (edits_of edits) =
    ap edits_of (c.first_ones.ensures ∙ (λ i. take 4096 (c.deref.ensures.value i))) ∙ sym (take-map edit_of 4096 edits) in
    let held = copy.edits.ok.0 in
    let counted = length-map edits edit_of in
    let count : c.len.result ≡ length (edits_of edits) = omega (arith, c.len.ensures, held, counted) in
    let lines = flat_map (edit_line n) (take 4096 (edits_of edits)) in
    on_ok_weaker c.put_more.result
    (λ (e : c.put_more.new.out.items ≡ c.put_edits.new.out.items ++ more_edits_line n c.len.result).
    e ∙ (λ i. (c.in_ok-put_edits.ensures ∙ ap (λ (es : List _). out ++ flat_map (edit_line n) es) first) i
    ++ more_edits_line n (count i))
    ∙ append_assoc out lines (more_edits_line n (length (edits_of edits))))
    c.put_more.ensures
