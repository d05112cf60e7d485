use Rattle.jls_bits.proofs.Codes.{golomb_same}
use Rattle.jls_bits.proofs.golomb.no_golomb_code_begins_another.Goals as goal

pub returns : goal.returns
returns c = λ k g qbpp m n s t. golomb_same k g qbpp m n s t
