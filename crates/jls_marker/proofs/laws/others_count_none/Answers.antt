use Rattle.jls_marker.proofs.HeaderSteps
use Rattle.jls_marker.proofs.laws.others_count_none.Goals as goal

pub returns : goal.returns
returns c = HeaderSteps.others_count_none
