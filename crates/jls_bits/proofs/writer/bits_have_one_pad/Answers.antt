use Rattle.jls_bits.specs.Pad.{pad}
use Rattle.jls_bits.proofs.Padding.{pad_is_pad, one_pad}
use Rattle.jls_bits.proofs.writer.bits_have_one_pad.Goals as goal

pub returns-clause-computed : goal.returns-clause-computed
returns-clause-computed c = λ given. pad_is_pad given

pub returns-clause-only : goal.returns-clause-only
returns-clause-only c = λ given bytes h. one_pad given bytes (pad given) h (pad_is_pad given)
