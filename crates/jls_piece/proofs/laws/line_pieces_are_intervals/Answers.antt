use Rattle.jls_piece.proofs.LinePieces.{is_interval}
use Rattle.jls_piece.proofs.laws.line_pieces_are_intervals.Goals as goal

pub returns : goal.returns
returns c = is_interval
