use Rattle.jls_interval.proofs.GrowthEnds.{events_some}
use Rattle.jls_interval.proofs.laws.events_have_bits.Goals as goal

pub returns : goal.returns
returns c = events_some
