use Rattle.std.proofs.Common.{length}
use Rattle.jls_bits.specs.CodeState.{bits_fed}
use Rattle.jls_bits.proofs.ChunkSteps.{Taking}
use Rattle.jls_bits.proofs.code_state.push_bit_by_bit.Given as goal

-- the bits that were taken led to this state
abbrev pub invariant-loop-bit : goal.invariant-loop-bit
invariant-loop-bit l = Taking l.k l.g l.qbpp (bits_fed l.g l.qbpp l.fn.state) l.initial.chunk l.now l.chunk

abbrev pub decreases-loop-bit : goal.decreases-loop-bit
decreases-loop-bit l = length l.chunk
