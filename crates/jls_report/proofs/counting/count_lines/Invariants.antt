use Rattle.std.proofs.Common.{◌≡◌, ◌≤◌, ◌*◌}
use Rattle.std.specs.List.{sum_by, count_by, range_with_len}
use Rattle.jls_report.specs.Lines.{is_settled_line, is_missing, is_disputed, lines}
use Rattle.jls_report.proofs.counting.count_lines.Given as goal

-- before each component: those before it are counted
abbrev pub invariant-loop-component : goal.invariant-loop-component
invariant-loop-component l = record {
  settled : l.counts.settled ≡ sum_by (λ component. count_by (is_settled_line l.partial component) (lines l.partial.shape))
      (range_with_len 0 l.component);
  missing : l.counts.missing ≡ sum_by (λ component. count_by (is_missing l.partial component) (lines l.partial.shape))
      (range_with_len 0 l.component);
  disputed : l.counts.disputed ≡ sum_by (λ component. count_by (is_disputed l.partial component) (lines l.partial.shape))
      (range_with_len 0 l.component);
  settled_within : l.counts.settled ≤ 65535 * l.component;
  missing_within : l.counts.missing ≤ 65535 * l.component;
  disputed_within : l.counts.disputed ≤ 65535 * l.component;
}
