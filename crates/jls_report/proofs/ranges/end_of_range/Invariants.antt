use Rattle.std.proofs.Common.{◌≡◌, ◌≤◌, ◌<◌, ℕ, true}
use Rattle.jls_report.specs.Lines.{is_missing}
use Rattle.jls_report.proofs.ranges.end_of_range.Given as goal

abbrev pub invariant-loop-line : goal.invariant-loop-line
invariant-loop-line l = (k : ℕ) → l.first ≤ k → k < l.line → is_missing l.partial l.component k ≡ true
