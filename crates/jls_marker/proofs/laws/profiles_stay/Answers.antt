use Rattle.jls_marker.proofs.ProfileSteps
use Rattle.jls_marker.proofs.laws.profiles_stay.Goals as goal

pub returns : goal.returns
returns c = ProfileSteps.profiles_stay
