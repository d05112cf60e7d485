use Rattle.std.proofs.Common.{◌≡◌, ◌++◌, length}
use Rattle.jls_bits.specs.CodeState.{bits_fed, IsOpen}
use Rattle.jls_pixel.proofs.cut_sample.take_open_code.Given as goal

abbrev pub invariant-loop-bit : goal.invariant-loop-bit
invariant-loop-bit l = record {
  «open» : IsOpen l.k l.g l.qbpp l.state;
  fed : l.initial.pending ≡ bits_fed l.g l.qbpp l.state ++ l.pending;
}

abbrev pub decreases-loop-bit : goal.decreases-loop-bit
decreases-loop-bit l = length l.pending
