use Rattle.std.proofs.Common.{◌≡◌, ◌<◌, length, take, drop, ap, sym, subst, ◌∙◌, arith}
use Rattle.std.specs.Prelude.{OnErr, Ok, Err}
use Rattle.std.proofs.lemmas.List.{take-append-drop}
use Rattle.jls_values.specs.Join.{IsBetween}
use Rattle.jls_values.specs.OrderedSet.{items}
use Rattle.jls_partial.specs.LineSet.{PictureLines, with_lines, kept_lines, union_of_lines}
use Rattle.jls_partial.specs.Merging.{TakesPrefixOfLines}
use Rattle.jls_partial.proofs.Growth.{kept_whole}
use Rattle.jls_partial.proofs.LineUnions.{one_more, all_is_union, prefix_between}
use Rattle.jls_partial.proofs.line_set.merge_lines.Goals as goal

-- memory was refused at a line: all that was held is held
pub returns-in_err-take-clause-err : goal.returns-in_err-take-clause-err
returns-in_err-take-clause-err c =
    let s = c.args.into.now in
    let p = c.args.other.now in
    let kl = kept_lines p in
    let i = c.loop-i.i in
    let between : IsBetween union_of_lines s (with_lines s (take i kl)) (union_of_lines s p) =
    prefix_between s p c.len-i-end.ensures.sources (take i kl) (drop i kl) (sym (take-append-drop i kl)) in
    let stands : IsBetween union_of_lines s c.take.new.self (union_of_lines s p) =
    subst (λ (z : PictureLines). IsBetween union_of_lines s z (union_of_lines s p)) (sym (c.in_err-take.ensures.err ∙ c.loop-i.invariant))
    between in
    elim c.from_residual.result as (λ r. OnErr r (IsBetween union_of_lines s c.take.new.self (union_of_lines s p))) [
      | Ok _ ↦ tt
      | Err _ ↦ stands
    ]

-- memory was refused at a line: the lines before it are taken
pub returns-in_err-take-clause-prefix : goal.returns-in_err-take-clause-prefix
returns-in_err-take-clause-prefix c =
    let kl = kept_lines c.args.other.now in
    let i = c.loop-i.i in
    let stands : TakesPrefixOfLines c.args.into.now c.take.new.self kl = record {
      taken = take i kl;
      left = drop i kl;
      parts = sym (take-append-drop i kl);
      new_is = c.in_err-take.ensures.err ∙ c.loop-i.invariant;
    } in
    elim c.from_residual.result as (λ r. OnErr r (TakesPrefixOfLines c.args.into.now c.take.new.self kl)) [
      | Ok _ ↦ tt
      | Err _ ↦ stands
    ]

-- one line more is taken
pub loop-i-preserved : goal.loop-i-preserved
loop-i-preserved c =
    let end = c.len-i-end.ensures.value in
    let lt : c.loop-i.i < length (items c.args.other.now.lines) = omega (arith, end, c.loop-i-test.true) in
    c.in_ok-take.ensures.ok ∙ one_more c.args.into.now c.loop-i.into c.args.other.now c.loop-i.i c.get.result.now c.sources.result.now lt
    c.get.ensures.value c.sources.ensures c.loop-i.invariant

-- all lines are taken
pub returns-clause-ok : goal.returns-clause-ok
returns-clause-ok c =
    let s = c.args.into.now in
    let p = c.args.other.now in
    let end = c.len-i-end.ensures.value in
    let all : length (items p.lines) ≡ c.loop-i.i = omega (arith, end) in
    c.loop-i.invariant ∙ ap (with_lines s) (kept_whole p c.loop-i.i all) ∙ all_is_union s p c.len-i-end.ensures.sources
