use Rattle.jls_piece.proofs.PieceHeads.{read_has_none}
use Rattle.jls_piece.proofs.laws.read_piece_has_no_head.Goals as goal

pub returns : goal.returns
returns c = λ i ok some piece lines head. read_has_none i ok some piece lines head
