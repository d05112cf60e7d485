use Rattle.jls_interval.proofs.PiecesReadOnce.{reads_once, read_not_long}
use Rattle.jls_interval.proofs.laws.pieces_read_once.Goals as goal

pub returns : goal.returns
returns c = λ i ok some piece xs read. (
  λ ys other. reads_once i.params ok i.width i.components i.line_count some piece xs ys read other,
  read_not_long i.params ok i.width i.components i.line_count some piece xs read,
)
