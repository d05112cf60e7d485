use Rattle.jls_marker.proofs.InForce
use Rattle.jls_marker.proofs.laws.segments_set_their_own.Goals as goal

pub returns : goal.returns
returns c = InForce.segments_set_their_own
