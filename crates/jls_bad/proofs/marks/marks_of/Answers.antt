use Rattle.std.proofs.Common.{◌≡◌, ◌∙◌, ◌||◌, false, get_or, sym, ap, arith}
use Rattle.std.proofs.lemmas.List.{get_or-replicate}
use Rattle.std.proofs.lemmas.List.Sorted.{list_any-IsPermutation}
use Rattle.jls_bad.specs.Known.{covers, is_bad}
use Rattle.jls_bad.proofs.MarkedPlaces.{front_kept}
use Rattle.jls_bad.proofs.marks.marks_of.Goals as goal

pub returns : goal.returns
returns c = λ at h.
    let old : get_or c.deref_mut.result.now at false ≡ false = ap (λ ms. get_or ms at false) (c.deref_mut.ensures.value ∙ c.in_ok-marks.ensures.items_if_clones_equal (λ y e. e)) ∙ get_or-replicate c.args.count at false false h in
    let same : is_bad c.deref.result.now at ≡ is_bad c.args.places.now at = ap (λ ps. is_bad ps at) c.deref.ensures.value
    ∙ (sym (list_any-IsPermutation (covers at) _ _ c.sort_unstable_by_key.ensures.permutation) ∙ ap (λ ps. is_bad ps at) c.in_ok-sorted.ensures.items) in
    front_kept _ c.mark_all.new.marks _ at (omega (arith, h, c.in_ok-marks.ensures.len)) (omega (arith, h, c.in_ok-marks.ensures.len, c.deref_mut.ensures.len, c.mark_all.auto.marks))
    ∙ (c.mark_all.ensures at (omega (arith, h, c.in_ok-marks.ensures.len, c.deref_mut.ensures.len)) ∙ (ap (λ b. b || is_bad c.deref.result.now at) old ∙ same))
