use Rattle.jls_pixel.proofs.GrowthEnds.{growth_ends}
use Rattle.jls_pixel.proofs.laws.growth_ends_in_rows.Goals as goal

pub returns : goal.returns
returns c = growth_ends
