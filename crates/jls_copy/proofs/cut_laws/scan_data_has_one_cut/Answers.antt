use Rattle.jls_copy.proofs.OneCut.{one_cut}
use Rattle.jls_copy.proofs.cut_laws.scan_data_has_one_cut.Goals as goal

pub returns : goal.returns
returns c = one_cut
