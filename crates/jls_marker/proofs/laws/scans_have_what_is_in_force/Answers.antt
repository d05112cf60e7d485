use Rattle.jls_marker.proofs.InForce
use Rattle.jls_marker.proofs.laws.scans_have_what_is_in_force.Goals as goal

pub returns : goal.returns
returns c = InForce.scans_have_what_is_in_force
