use Rattle.jls_interval.proofs.LinesGrow.{lines_grow}
use Rattle.jls_interval.proofs.laws.lines_grow.Goals as goal

pub returns : goal.returns
returns c = lines_grow
