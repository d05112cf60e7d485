use Rattle.jls_pixel.proofs.RowsGrow.{rows_grow}
use Rattle.jls_pixel.proofs.laws.rows_grow.Goals as goal

pub returns : goal.returns
returns c = rows_grow
