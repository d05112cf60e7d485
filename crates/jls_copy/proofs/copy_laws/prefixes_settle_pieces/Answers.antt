use Rattle.jls_marker.specs.declared.profile.Profile.TheVariants.{Strict}
use Rattle.jls_copy.proofs.SettledPieces.{prefixes_settle_pieces}
use Rattle.jls_copy.proofs.copy_laws.prefixes_settle_pieces.Goals as goal

pub returns : goal.returns
returns c = prefixes_settle_pieces Strict
