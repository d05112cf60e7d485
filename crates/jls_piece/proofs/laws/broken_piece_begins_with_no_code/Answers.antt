use Rattle.jls_piece.proofs.PieceReads.{broken_begins_with_none, none_is_broken}
use Rattle.jls_piece.proofs.laws.broken_piece_begins_with_no_code.Goals as goal

pub returns : goal.returns
returns c = λ i piece. (broken_begins_with_none i piece, none_is_broken i piece)
