use Rattle.jls_copy.proofs.UnitsCut.{units_cut}
use Rattle.jls_copy.proofs.cut_laws.units_are_cut.Goals as goal

pub returns : goal.returns
returns c = units_cut
