use Rattle.jls_marker.proofs.ProfileSteps
use Rattle.jls_marker.proofs.laws.scans_by_sample_have_several.Goals as goal

pub returns : goal.returns
returns c = ProfileSteps.scans_by_sample_have_several
