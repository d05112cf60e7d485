use Rattle.std.proofs.Common.{◌∙◌}
use Rattle.jls_held.specs.HeldPictures.{is_among}
use Rattle.jls_held.proofs.HeldReadings.{held_next, known_next, known_kept}
use Rattle.jls_held.proofs.rounds.advance.Goals as goal

-- the line at this place is not taken
pub returns-then-not-branch-clause-held : goal.returns-then-not-branch-clause-held
returns-then-not-branch-clause-held c files chain first all =
    let l = c.loop-at in
    c.in_ok-take.ensures.held files
    (held_next files c.args.chain.now l.at c.index-chain-at.result (is_among l.held) c.loop-at-test.true c.index-chain-at.is chain
    (l.invariant.taken first)) (l.invariant.are files chain first all)

-- or it is
pub loop-at-preserved : goal.loop-at-preserved
loop-at-preserved c =
    let l = c.loop-at in let now = c.take.new.held in let chain = c.args.chain.now in let line = c.index-chain-at.result in
    record {
      shape = c.in_ok-take.ensures.shape ∙ l.invariant.shape;
      marks = c.in_ok-take.ensures.marks ∙ l.invariant.marks;
      kept = λ r e. c.in_ok-take.ensures.kept r (l.invariant.kept r e);
      taken = λ first. known_next chain l.at line (is_among now) c.index-chain-at.is
          (known_kept chain l.at l.held now c.in_ok-take.ensures.kept (l.invariant.taken first)) (c.in_ok-take.ensures.taken c.if-not-branch.false);
      are = λ files is_chain first all. c.in_ok-take.ensures.held files
          (held_next files chain l.at line (is_among l.held) c.loop-at-test.true c.index-chain-at.is is_chain (l.invariant.taken first))
          (l.invariant.are files is_chain first all);
    }
