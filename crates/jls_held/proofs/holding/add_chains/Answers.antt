use Rattle.std.proofs.Common.{sym, subst}
use Rattle.std.proofs.lemmas.List.Elements.{All-head, All-tail, All-same}
use Rattle.std.specs.Vec.Iter.{into_iter_items}
use Rattle.jls_held.specs.Mending.{file_of}
use Rattle.jls_held.specs.FilePieces.{IsPieceOf}
use Rattle.jls_held.specs.Chains.{AreChains}
use Rattle.jls_held.proofs.HeldReadings.{chains_push}
use Rattle.jls_held.proofs.holding.add_chains.Goals as goal

pub chain_of-requires : goal.chain_of-requires
chain_of-requires c =
    let P = IsPieceOf (file_of c.args.file.now) in
    All-head P c.in-Some.piece (into_iter_items c.next.new.self) (All-same P _ _ (sym c.in-Some.ensures.steps.0) c.loop-piece.invariant.left)

-- the chain of one piece more is added
pub loop-piece-preserved : goal.loop-piece-preserved
loop-piece-preserved c =
    let P = IsPieceOf (file_of c.args.file.now) in
    record {
      left = All-tail P c.in-Some.piece (into_iter_items c.next.new.self)
          (All-same P _ _ (sym c.in-Some.ensures.steps.0) c.loop-piece.invariant.left);
      are = λ files among before. subst (AreChains files) (sym c.in_ok-push.ensures.items)
          (chains_push files c.loop-piece.chains.items c.in_ok-chain.chain (c.loop-piece.invariant.are files among before)
          (c.in_ok-chain.ensures files among));
    }
