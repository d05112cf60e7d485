use Rattle.jls_piece.proofs.PieceCodes.{codes_apart}
use Rattle.jls_piece.proofs.laws.piece_codes_are_apart.Goals as goal

pub returns : goal.returns
returns c = codes_apart
