use Rattle.jls_interval.proofs.GrowthEnds.{growth_ends}
use Rattle.jls_interval.proofs.laws.growth_ends_in_lines.Goals as goal

pub returns : goal.returns
returns c = growth_ends
