use Rattle.jls_piece.proofs.PieceHeads.{one_head}
use Rattle.jls_piece.proofs.laws.piece_heads_are_one.Goals as goal

pub returns : goal.returns
returns c = λ i ok some given xs ys. one_head i ok some given xs ys
