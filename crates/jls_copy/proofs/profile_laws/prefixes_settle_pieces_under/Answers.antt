use Rattle.jls_copy.proofs.SettledPieces.{prefixes_settle_pieces}
use Rattle.jls_copy.proofs.profile_laws.prefixes_settle_pieces_under.Goals as goal

pub returns : goal.returns
returns c = prefixes_settle_pieces
