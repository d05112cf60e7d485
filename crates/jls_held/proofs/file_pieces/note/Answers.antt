use Rattle.std.proofs.Common.{List, ℕ, Vec, Global, sym, subst}
use Rattle.std.specs.List.{All}
use Rattle.jls_copy.specs.declared.piece_in_hand.PieceInHand.{PieceInHand}
use Rattle.jls_held.specs.FilePieces.{IsTold}
use Rattle.jls_held.proofs.FoundPieces.{note_more, less_one}
use Rattle.jls_held.proofs.file_pieces.note.Goals as goal
use Rattle.jls_held.proofs.file_pieces.note.Goals.{then-is_last+in-Some-1, then-is_last+in-None-1, else-is_last}

-- the piece in hand stands in each longer list of bytes
pub returns : goal.returns
returns c =
    let less : (bytes : List ℕ) → All (IsTold bytes) c.args.told.now.items → All (IsTold bytes) c.if-is_last.told.items =
    elim c.if-is_last.branch [
      | then-is_last+in-Some-1 w ↦ (
          λ bytes all. subst (λ (v : Vec PieceInHand Global). All (IsTold bytes) v.items) (sym w.told-is)
          (less_one c.args.told.now.items w.pop.new.self.items w.pop.result w.pop.ensures.items bytes all))
      | then-is_last+in-None-1 w ↦ (
          λ bytes all. subst (λ (v : Vec PieceInHand Global). All (IsTold bytes) v.items) (sym w.told-is)
          (less_one c.args.told.now.items w.pop.new.self.items w.pop.result w.pop.ensures.items bytes all))
      | else-is_last w ↦ λ bytes all. subst (λ (v : Vec PieceInHand Global). All (IsTold bytes) v.items) (sym w.told-is) all
    ] in
    note_more c.args.reader.now c.in-Some.piece c.args.told.now.items c.if-is_last.told.items c.push.new.self.items
    (rw c.in-Some.is at c.in_ok-piece.ensures) c.in_ok-push.ensures.items less
