use Rattle.std.proofs.Common.{◌≡◌}
use Rattle.std.specs.List.{flat_map, range_with_len}
use Rattle.jls_splice_run.specs.Differences.{difference_at, offset_at}
use Rattle.jls_splice_run.proofs.differences.differences_of.Given as goal

abbrev pub invariant-loop-place : goal.invariant-loop-place
invariant-loop-place l = record {
  found : l.found.items ≡ flat_map (difference_at l.parts) (range_with_len 0 l.place);
  offset : l.offset ≡ offset_at l.parts l.place;
}
