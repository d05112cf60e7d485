use Rattle.std.proofs.Common.{◌≡◌, ◌++◌, ◌∙◌, length, take, drop, ap, sym, subst, arith, rules}
use Rattle.std.proofs.Math.Seq.{take-append_seam}
use Rattle.jls_held.specs.HeldPictures.{is_among}
use Rattle.jls_held.specs.Chains.{ArePlacesKnown}
use Rattle.jls_held.proofs.rounds.take_held.Goals as goal

-- a round that takes no line is the last
pub returns-then-not-branch-clause-held : goal.returns-then-not-branch-clause-held
returns-then-not-branch-clause-held c files are all =
    let l = c.loop-round in
    c.in_ok-advance_each.ensures.held files are
    (subst (ArePlacesKnown (is_among l.held) c.args.chains.now) (sym c.deref_mut.ensures.value) l.invariant.taken)
    (l.invariant.are files are all)

-- or there is another
pub loop-round-preserved : goal.loop-round-preserved
loop-round-preserved c =
    let l = c.loop-round in let n = c.in_ok-advance_each.ensures in
    let before = subst (ArePlacesKnown (is_among l.held) c.args.chains.now) (sym c.deref_mut.ensures.value) l.invariant.taken in
    let places = c.advance_each.new.places in
    let long : l.places.len ≡ length places = search (rules, arith) in
    let own : l.places.len ≡ length l.places.items = search (rules, arith) in
    let back : take l.places.len (places ++ drop (length places) l.places.items) ≡ places =
    ap (λ n. take n (places ++ drop (length places) l.places.items)) long ∙ take-append_seam places (drop (length places) l.places.items) in
    record {
      count = omega (arith, ap length back, long, own, l.invariant.count);
      shape = n.shape ∙ l.invariant.shape;
      marks = n.marks ∙ l.invariant.marks;
      taken = subst (ArePlacesKnown (is_among c.advance_each.new.held) c.args.chains.now) (sym back) (n.taken before);
      are = λ files is all. n.held files is before (l.invariant.are files is all);
    }
