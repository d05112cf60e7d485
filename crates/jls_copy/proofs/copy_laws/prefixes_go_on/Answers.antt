use Rattle.jls_marker.specs.declared.profile.Profile.TheVariants.{Strict}
use Rattle.jls_copy.proofs.PiecesInHand.{prefixes_go_on}
use Rattle.jls_copy.proofs.copy_laws.prefixes_go_on.Goals as goal

pub returns : goal.returns
returns c = prefixes_go_on Strict
