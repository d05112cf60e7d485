use Rattle.jls_copy.proofs.PiecesInHand.{prefixes_go_on}
use Rattle.jls_copy.proofs.profile_laws.prefixes_go_on_under.Goals as goal

pub returns : goal.returns
returns c = prefixes_go_on
