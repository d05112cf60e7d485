use Rattle.std.proofs.Common.{◌≡◌, ◌≤◌}
use Rattle.std.specs.List.{count_by, range_with_len}
use Rattle.jls_report.specs.Lines.{is_settled_line, is_missing, is_disputed}
use Rattle.jls_report.proofs.counting.count_component.Given as goal

-- the lines so far are counted
abbrev pub invariant-loop-line : goal.invariant-loop-line
invariant-loop-line l = record {
  settled : l.counts.settled ≡ count_by (is_settled_line l.partial l.component) (range_with_len 0 l.line);
  missing : l.counts.missing ≡ count_by (is_missing l.partial l.component) (range_with_len 0 l.line);
  disputed : l.counts.disputed ≡ count_by (is_disputed l.partial l.component) (range_with_len 0 l.line);
  settled_within : l.counts.settled ≤ l.line;
  missing_within : l.counts.missing ≤ l.line;
  disputed_within : l.counts.disputed ≤ l.line;
}
