use Rattle.jls_marker.specs.declared.profile.Profile.TheVariants.{Strict}
use Rattle.jls_copy.proofs.OtherEnds.{other_ends_change}
use Rattle.jls_copy.proofs.copy_laws.other_ends_change.Goals as goal

pub returns : goal.returns
returns c = other_ends_change Strict
