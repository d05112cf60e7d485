use Rattle.std.proofs.Common.{◌≡◌, ◌<◌, ◌∷◌, [], ◌∙◌, None, length, map, take, drop, ap, sym, subst, arith}
use Rattle.std.proofs.lemmas.List.{map-append, take-append-drop}
use Rattle.std.proofs.lemmas.Result.{err_from_is_err_and}
use Rattle.jls_values.specs.OrderedSet.{items}
use Rattle.jls_values.specs.Shape.{PictureShape}
use Rattle.jls_partial.specs.Entries.{kept_at_place}
use Rattle.jls_partial.specs.InsertFaults.{reading_fault}
use Rattle.jls_partial.specs.LineSet.{kept_lines}
use Rattle.jls_partial.specs.Packed.{Kept}
use Rattle.jls_partial.specs.Partial.{PartialPicture, with_all}
use Rattle.jls_partial.proofs.Growth.{kept_more, kept_whole, with_all-append}
use Rattle.jls_partial.proofs.Views.{all-slice_get}
use Rattle.jls_partial.proofs.merging.merge_line.Goals as goal

-- the reading fits, as all of the other picture do
pub take-requires : goal.take-requires
take-requires c =
    subst (λ (s : PictureShape). reading_fault s c.args.at.component c.args.at.line c.get.result.now ≡ None)
    (sym (ap (λ (p : PartialPicture). p.shape) c.loop-i.invariant))
    (all-slice_get (λ x. reading_fault c.args.into.now.shape c.args.at.component c.args.at.line x ≡ None) (items c.args.lines.now.lines)
    c.loop-i.i c.get.result.now c.requires.entry.fitting c.get.ensures.value)

-- memory was refused at a reading: all that was held is held
pub returns-in_err-take-clause-err : goal.returns-in_err-take-clause-err
returns-in_err-take-clause-err c =
    let p = err_from_is_err_and c.from_residual.result c.from_residual.ensures.1 in
    let f = kept_at_place c.args.at in
    let ks = kept_lines c.args.lines.now in
    let i = c.loop-i.i in
    rw p.1 (record {
      taken = map f (take i ks);
      left = map f (drop i ks);
      parts = ap (map f) (sym (take-append-drop i ks)) ∙ map-append f (take i ks) (drop i ks);
      new_is = c.in_err-take.ensures.err ∙ c.loop-i.invariant;
    })

-- one reading more of the line is taken
pub loop-i-preserved : goal.loop-i-preserved
loop-i-preserved c =
    let f = kept_at_place c.args.at in
    let L = c.args.lines.now in
    let ks = kept_lines L in
    let i = c.loop-i.i in
    let k : Kept = (c.get.result.now, c.sources.result.now) in
    let end = c.len-i-end.ensures.value in
    let lt : i < length (items L.lines) = omega (arith, end, c.loop-i-test.true) in
    c.in_ok-take.ensures.ok
    ∙ ap (λ (p : PartialPicture). with_all p (f k ∷ [])) c.loop-i.invariant
    ∙ sym (with_all-append c.args.into.now (map f (take i ks)) (f k ∷ []))
    ∙ ap (with_all c.args.into.now)
    (sym (ap (map f) (kept_more L i k.0 k.1 lt c.get.ensures.value c.sources.ensures) ∙ map-append f (take i ks) (k ∷ [])))

-- all readings of the line are taken
pub returns-clause-ok : goal.returns-clause-ok
returns-clause-ok c =
    let L = c.args.lines.now in
    let end = c.len-i-end.ensures.value in
    c.loop-i.invariant ∙ ap (λ xs. with_all c.args.into.now (map (kept_at_place c.args.at) xs))
    (kept_whole L c.loop-i.i (let all : length (items L.lines) ≡ c.loop-i.i = omega (arith, end) in all))
