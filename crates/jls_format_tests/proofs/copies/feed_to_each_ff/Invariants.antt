use Rattle.std.proofs.Common.{◌≤◌}
use Rattle.jls_format_tests.proofs.copies.feed_to_each_ff.Given as goal

abbrev pub invariant-loop-place : goal.invariant-loop-place
invariant-loop-place l = l.start ≤ l.place
