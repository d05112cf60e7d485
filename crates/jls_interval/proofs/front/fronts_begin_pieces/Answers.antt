use Rattle.jls_interval.proofs.Fronts.{fronts_begin}
use Rattle.jls_interval.proofs.front.fronts_begin_pieces.Goals as goal

pub returns : goal.returns
returns c = fronts_begin c.fronts_begin.ensures.bytes
