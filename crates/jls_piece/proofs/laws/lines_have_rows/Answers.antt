use Rattle.jls_piece.proofs.RowLines.{lines_have_rows}
use Rattle.jls_piece.proofs.laws.lines_have_rows.Goals as goal

pub returns : goal.returns
returns c = lines_have_rows
