use Rattle.jls_piece.proofs.RowLines.{rows_are_one}
use Rattle.jls_piece.proofs.laws.rows_are_one.Goals as goal

pub returns : goal.returns
returns c = rows_are_one
