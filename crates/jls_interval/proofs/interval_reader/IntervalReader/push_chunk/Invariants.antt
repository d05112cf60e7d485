use Rattle.std.proofs.Common.{length}
use Rattle.jls_interval.specs.Decoding.{KeepsShape, TakesFirst}
use Rattle.jls_interval.proofs.interval_reader.IntervalReader.push_chunk.Given as goal

-- the first bits of the chunk are taken
abbrev pub invariant-events : goal.invariant-events
invariant-events l = record {
  shape : KeepsShape l.initial.self l.self;
  taking : TakesFirst l.initial.self l.initial.chunk l.self l.chunk;
}

abbrev pub decreases-events : goal.decreases-events
decreases-events l = length l.chunk
