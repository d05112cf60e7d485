use Rattle.std.proofs.Common.{◌≡◌, ◌++◌, codes, ap, ◌∙◌, append_assoc}
use Rattle.std.proofs.lemmas.Result.{on_ok_weaker}
use Rattle.jls_splice_run.specs.Lines.{lists_words, picture_words, samples_end}
use Rattle.jls_splice_run.proofs.lines.put_picture.Goals as goal

pub returns : goal.returns
returns c =
    let old = c.args.out.now.items in
    let words = picture_words in
    let lists = lists_words c.args.has_lists in
    let rest = samples_end (codes " and samples are up to ") c.args.ceiling in
    let extended : c.extend_from_slice.new.self.items ≡ old ++ words = c.in_ok-extend_from_slice.ensures.items in
    let listed : c.put_lists.new.out.items ≡ (old ++ words) ++ lists =
    c.in_ok-put_lists.ensures ∙ ap (λ xs. xs ++ lists) extended in
    on_ok_weaker c.put_samples.result
    (λ e. e ∙ ap (λ xs. xs ++ rest) listed ∙ append_assoc (old ++ words) lists rest ∙ append_assoc old words (lists ++ rest))
    c.put_samples.ensures
