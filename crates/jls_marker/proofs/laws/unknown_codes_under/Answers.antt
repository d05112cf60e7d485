use Rattle.jls_marker.proofs.FaultsOf
use Rattle.jls_marker.proofs.laws.unknown_codes_under.Goals as goal

pub returns : goal.returns
returns c = FaultsOf.unknown_codes_under
