use Rattle.jls_marker.proofs.ProfileSteps
use Rattle.jls_marker.proofs.laws.strict_headers_have_none_by_sample.Goals as goal

pub returns : goal.returns
returns c = ProfileSteps.strict_headers_have_none_by_sample
