use Rattle.std.proofs.Common.{◌≡◌}
use Rattle.jls_splice_run.specs.Differences.{offset_at}
use Rattle.jls_splice_run.proofs.differences.offset_at.Given as goal

abbrev pub invariant-loop-at : goal.invariant-loop-at
invariant-loop-at l = l.offset ≡ offset_at l.parts l.at
