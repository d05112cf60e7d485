use Rattle.jls_bits.proofs.Codes.{length_limited}
use Rattle.jls_bits.proofs.golomb.golomb_codes_are_limited.Goals as goal

pub returns : goal.returns
returns c = λ k g qbpp m. length_limited k g qbpp m
