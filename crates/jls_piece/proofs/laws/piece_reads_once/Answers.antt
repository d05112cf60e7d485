use Rattle.jls_piece.proofs.PieceReads.{reads_once, read_not_long}
use Rattle.jls_piece.proofs.laws.piece_reads_once.Goals as goal

pub returns : goal.returns
returns c = λ i ok some piece xs read.
    (λ ys other. reads_once i ok some piece xs ys read other, read_not_long i ok some piece xs read)
