use Rattle.jls_bits.proofs.Padding.{zero_bits}
use Rattle.jls_bits.proofs.chunk.Chunk.zeros.Goals as goal

pub returns : goal.returns
returns c = zero_bits c.args.count
