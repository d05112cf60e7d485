use Rattle.jls_piece.proofs.RowLines.{rows_have_lines}
use Rattle.jls_piece.proofs.laws.rows_have_lines.Goals as goal

pub returns : goal.returns
returns c = rows_have_lines
