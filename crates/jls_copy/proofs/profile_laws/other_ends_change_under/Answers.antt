use Rattle.jls_copy.proofs.OtherEnds.{other_ends_change}
use Rattle.jls_copy.proofs.profile_laws.other_ends_change_under.Goals as goal

pub returns : goal.returns
returns c = other_ends_change
