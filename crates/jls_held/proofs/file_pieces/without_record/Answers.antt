use Rattle.std.proofs.Common.{◌≢◌, List, length, sym, ap, ◌∙◌, subst}
use Rattle.std.specs.List.{All}
use Rattle.std.specs.Vec.Iter.{into_iter_items}
use Rattle.std.proofs.lemmas.List.Elements.{All-head, All-tail, All-same, All-push}
use Rattle.jls_copy.specs.declared.piece.PieceRecord.{PieceRecord}
use Rattle.jls_held.specs.FilePieces.{IsTold, HasNoRecord}
use Rattle.jls_held.proofs.file_pieces.without_record.Goals as goal

-- a piece without a record is kept
pub loop-piece-preserved-in-Continue-1 : goal.loop-piece-preserved-in-Continue-1
loop-piece-preserved-in-Continue-1 c =
    let piece = c.in-Some.piece in let later = into_iter_items c.next.new.self in let kept = c.loop-piece.kept.items in
    let out_is = c.in_ok-push.ensures.items in let before = c.loop-piece.invariant in
    let own : HasNoRecord c.args.read.now piece = record {
      all_kept = sym c.piece_count.ensures ∙ c.if-piece_count-pieces.false ∙ ap length c.pieces.ensures;
      none = subst (λ (rs : List PieceRecord). All (λ r. r.offset ≢ piece.offset) rs) c.pieces-in-loop-piece.ensures
          (c.is_recorded.ensures c.if-not-is_recorded.true);
    } in
    record {
      none = All-same (HasNoRecord c.args.read.now) _ _ out_is (All-push (HasNoRecord c.args.read.now) kept piece before.none own);
      left = λ bytes all. All-tail (IsTold bytes) piece later (All-same (IsTold bytes) _ _ (sym c.in-Some.ensures.steps.0) (before.left bytes all));
      told = λ bytes all. All-same (IsTold bytes) _ _ out_is (All-push (IsTold bytes) kept piece (before.told bytes all)
          (All-head (IsTold bytes) piece later (All-same (IsTold bytes) _ _ (sym c.in-Some.ensures.steps.0) (before.left bytes all))));
    }

-- a piece with a record is left out
pub loop-piece-preserved : goal.loop-piece-preserved
loop-piece-preserved c =
    let piece = c.in-Some.piece in let later = into_iter_items c.next.new.self in let before = c.loop-piece.invariant in
    record {
      none = before.none;
      left = λ bytes all. All-tail (IsTold bytes) piece later (All-same (IsTold bytes) _ _ (sym c.in-Some.ensures.steps.0) (before.left bytes all));
      told = before.told;
    }
