use Rattle.std.proofs.Common.{◌<◌, ◌≤◌, length}
use Rattle.jls_interval.specs.Reading.{Taken}
use Rattle.jls_pixel.proofs.cut_run.read_run_end.Given as goal

abbrev pub invariant-loop-bit : goal.invariant-loop-bit
invariant-loop-bit l = record {
  taken : Taken l.run_index l.width l.initial.pending l.now l.columns l.pending;
  some : 0 < l.columns;
  within : l.columns ≤ l.width;
  small : l.now ≤ 31;
}

abbrev pub decreases-loop-bit : goal.decreases-loop-bit
decreases-loop-bit l = length l.pending
