use Rattle.jls_interval.proofs.PiecesReadOnce.{broken_begins_with_none, none_is_broken}
use Rattle.jls_interval.proofs.laws.broken_pieces_begin_with_no_code.Goals as goal

pub returns : goal.returns
returns c = λ i piece. (
  broken_begins_with_none i.params i.width i.components i.line_count piece,
  none_is_broken i.params i.width i.components i.line_count piece,
)
