use Rattle.std.proofs.Common.{ℕ, ◌++◌, List, ap, sym, ◌∙◌}
use Rattle.std.proofs.lemmas.List.{append_assoc}
use Rattle.jls_held.specs.Judging.{codings_of}
use Rattle.jls_carried.specs.CodingLines.{unlisted_line, unlisted_lines}
use Rattle.jls_values.proofs.Lists.{flat_map_more}
use Rattle.jls_carried.proofs.coding_lines.put_all_unlisted.Goals as goal

pub loop-number-preserved : goal.loop-number-preserved
loop-number-preserved c =
    let codings = codings_of c.args.codings.now in
    let number = c.loop-number.number in
    let out = c.args.out.now.items in
    let strangers = c.args.strangers.now in
    let line = unlisted_line codings strangers number in
    c.in_ok-put_unlisted.ensures ∙ ap (λ (t : List ℕ). t ++ line) c.loop-number.invariant
    ∙ append_assoc out (unlisted_lines number codings strangers) line
    ∙ ap (λ (t : List ℕ). out ++ t) (sym (flat_map_more (unlisted_line codings strangers) number))
