use Rattle.jls_marker.proofs.FaultsOf
use Rattle.jls_marker.proofs.laws.never_ended.Goals as goal

pub returns : goal.returns
returns c = FaultsOf.never_ended
