use Rattle.std.proofs.Common.{◌≡◌, ◌^◌, ◌<◌, ◌++◌}
use Rattle.jls_bits.specs.Bits.{bits}
use Rattle.jls_pixel.proofs.cut_run.read_number_end.Given as goal

abbrev pub invariant-loop-place : goal.invariant-loop-place
invariant-loop-place l = record {
  bits_are : l.initial.pending ≡ bits l.place l.value ++ l.pending;
  below : l.value < 2 ^ l.place;
}
