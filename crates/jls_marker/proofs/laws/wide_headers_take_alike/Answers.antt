use Rattle.jls_marker.proofs.ProfileSteps
use Rattle.jls_marker.proofs.laws.wide_headers_take_alike.Goals as goal

pub returns : goal.returns
returns c = ProfileSteps.wide_headers_take_alike
