use Rattle.std.proofs.Common.{◌∙◌, ◌++◌, List, Vec, Global, ap, sym}
use Rattle.jls_bad.specs.declared.place.Place.{Place}
use Rattle.jls_splice_run.proofs.ListedCopies.{other_more, own_more}
use Rattle.jls_splice_run.proofs.bad_lists.places_for.Goals.{then-from-number+in_ok-extend_from_slice, else-from-number}
use Rattle.jls_splice_run.proofs.bad_lists.places_for.Goals as goal

pub loop-index-preserved : goal.loop-index-preserved
loop-index-preserved c = elim c.if-from-number.branch [
  | then-from-number+in_ok-extend_from_slice w ↦
      ap (λ (v : Vec Place Global). v.items) w.own-is ∙ w.in_ok-extend_from_slice.ensures.items
      ∙ ap (λ (ps : List Place). c.loop-index.own.items ++ ps) w.deref.ensures.value
      ∙ ap (λ (ps : List Place). ps ++ w.index-places-index.result.items) c.loop-index.invariant
      ∙ sym (own_more _ c.args.number c.args.lists.now c.args.places.now c.loop-index.index c.from.result w.index-places-index.result
      c.requires
      c.loop-index-test.true c.from.ensures w.index-places-index.is w.if-from-number.true)
  | else-from-number w ↦
      ap (λ (v : Vec Place Global). v.items) w.own-is ∙ c.loop-index.invariant
      ∙ sym (other_more _ c.args.number c.args.lists.now c.args.places.now c.loop-index.index c.from.result c.loop-index.own c.requires
      c.loop-index-test.true c.from.ensures w.if-from-number.false)
]
