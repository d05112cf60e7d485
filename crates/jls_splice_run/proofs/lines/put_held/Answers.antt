use Rattle.std.proofs.Common.{◌≡◌, ◌++◌, codes, ap, ◌∙◌, append_assoc}
use Rattle.jls_splice_run.specs.Lines.{held_words, lists_words}
use Rattle.jls_splice_run.proofs.lines.put_held.Goals as goal

pub returns : goal.returns
returns c =
    let old = c.args.out.now.items in
    let first = codes "promise picture if copies of one coding are of one file of it, true outside of their differs, there as long as printed, " in
    let second = codes "with the marker segments of the mended file" in
    let lists = lists_words c.args.has_lists in
    let end = codes "\n" in
    let extended : c.extend_from_slice.new.self.items ≡ old ++ first = c.in_ok-extend_from_slice.ensures.items in
    let words : c.extend_from_slice-2.new.self.items ≡ old ++ held_words =
    c.in_ok-extend_from_slice-2.ensures.items ∙ ap (λ xs. xs ++ second) extended ∙ append_assoc old first second in
    let listed : c.put_lists.new.out.items ≡ (old ++ held_words) ++ lists = c.in_ok-put_lists.ensures ∙ ap (λ xs. xs ++ lists) words in
    c.in_ok-extend_from_slice-3.ensures.items ∙ ap (λ xs. xs ++ end) listed ∙ append_assoc (old ++ held_words) lists end
    ∙ append_assoc old held_words (lists ++ end)
