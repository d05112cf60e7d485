use Rattle.std.proofs.Common.{◌≡◌, ◌∙◌, List, sym, subst, length, get_or}
use Rattle.jls_held.specs.MendedFiles.{MendedFile}
use Rattle.jls_held.specs.HeldPictures.{is_among}
use Rattle.jls_held.specs.Chains.{IsChain, AreChains, AreFirstKnown, ArePlacesKnown, IsHeldPicture}
use Rattle.jls_held.proofs.HeldReadings.{places_kept, places_set}
use Rattle.jls_held.proofs.rounds.advance_each.Goals.{then-places-i, else-places-i}
use Rattle.jls_held.proofs.rounds.advance_each.Goals as goal

-- lines of one chain more are taken
pub loop-i-preserved : goal.loop-i-preserved
loop-i-preserved c =
    let l = c.loop-i in let now = c.advance.new.held in let chains = c.args.chains.now in let chain = c.index-chains-i.result in
    let n = c.in_ok-next.ensures in let inside = c.loop-i-test.true in
    let items : c.deref.result.now ≡ chain.items = c.deref.ensures.value in
    let same = c.index-chains-i.is in
    let count : length l.places ≡ length chains = l.auto.places ∙ c.requires in
    let old = c.args.held.now in
    let before : ArePlacesKnown (is_among old) chains c.args.places.now
    → AreFirstKnown (is_among l.held) c.deref.result.now (get_or l.places l.i 0) = λ are. subst (λ z. AreFirstKnown (is_among l.held) z (get_or l.places l.i 0)) (sym items)
    (subst (λ z. AreFirstKnown (is_among l.held) z.items (get_or l.places l.i 0)) (sym same) (l.invariant.taken are l.i chain inside)) in
    let kept : ArePlacesKnown (is_among old) chains c.args.places.now → ArePlacesKnown (is_among now) chains l.places = λ are. places_kept chains l.places l.held now n.kept (l.invariant.taken are) in
    let picture : (files : List MendedFile) → AreChains files chains → ArePlacesKnown (is_among old) chains c.args.places.now
    → IsHeldPicture files old → IsHeldPicture files now = λ files is are all. n.held files (subst (IsChain files) (sym items)
    (subst (λ z. IsChain files z.items) (sym same) (is l.i chain inside))) (before are) (l.invariant.are files is are all) in
    elim c.if-places-i.branch [
      | then-places-i w ↦ record {
        shape = n.shape ∙ l.invariant.shape;
        marks = n.marks ∙ l.invariant.marks;
        kept = λ r e. n.kept r (l.invariant.kept r e);
        taken = λ are. subst (ArePlacesKnown (is_among now) chains) (sym w.places-is)
            (places_set chains l.places l.i c.in_ok-next.next chain (is_among now) count same (kept are)
            (subst (λ z. AreFirstKnown (is_among now) z c.in_ok-next.next) items (n.taken (before are))));
        are = picture;
      }
      | else-places-i w ↦ record {
        shape = n.shape ∙ l.invariant.shape;
        marks = n.marks ∙ l.invariant.marks;
        kept = λ r e. n.kept r (l.invariant.kept r e);
        taken = λ are. subst (ArePlacesKnown (is_among now) chains) (sym w.places-is) (kept are);
        are = picture;
      }
    ]
