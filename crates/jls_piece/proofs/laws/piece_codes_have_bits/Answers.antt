use Rattle.jls_piece.proofs.FirstBits.{codes_have_bits}
use Rattle.jls_piece.proofs.laws.piece_codes_have_bits.Goals as goal

pub returns : goal.returns
returns c = codes_have_bits
