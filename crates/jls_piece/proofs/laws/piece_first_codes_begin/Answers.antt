use Rattle.jls_piece.proofs.PieceCodes.{code_parts}
use Rattle.jls_piece.proofs.laws.piece_first_codes_begin.Goals as goal

pub returns : goal.returns
returns c = code_parts
