use Rattle.std.proofs.Common.{◌≡◌, ◌++◌, length}
use Rattle.jls_bits.specs.CodeState.{bits_fed, IsOpen}
use Rattle.jls_bits.proofs.golomb.read_code.Given as goal

-- the bits that were read led to this open state
abbrev pub invariant-loop-bit : goal.invariant-loop-bit
invariant-loop-bit l = record {
  «open» : IsOpen l.k l.g l.qbpp l.state;
  fed : l.initial.reader.left ≡ bits_fed l.g l.qbpp l.state ++ l.reader.left;
  whole : l.reader.whole ≡ l.initial.reader.whole;
}

abbrev pub decreases-loop-bit : goal.decreases-loop-bit
decreases-loop-bit l = length l.reader.left
