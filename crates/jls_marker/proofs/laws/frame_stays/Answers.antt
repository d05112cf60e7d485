use Rattle.jls_marker.proofs.HeaderSteps
use Rattle.jls_marker.proofs.laws.frame_stays.Goals as goal

pub returns : goal.returns
returns c = HeaderSteps.frame_stays
