use Rattle.std.proofs.Common.{length}
use Rattle.jls_interval.specs.RunState.{IsRunState}
use Rattle.jls_interval.proofs.RunChunks.{Taking}
use Rattle.jls_interval.proofs.run_reader.RunState.push_chunk.Given as goal

-- the bits that were taken led to this state
abbrev pub invariant-loop-bit : goal.invariant-loop-bit
invariant-loop-bit l = record {
  state : IsRunState l.width l.state;
  taking : Taking l.width l.fn.self l.initial.chunk l.state l.chunk;
}

abbrev pub decreases-loop-bit : goal.decreases-loop-bit
decreases-loop-bit l = length l.chunk
