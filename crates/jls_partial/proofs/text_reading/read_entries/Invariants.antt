use Rattle.std.proofs.Common.{◌≡◌, ◌-◌, None}
use Rattle.jls_partial.specs.TextPrefix.{entries_prefix}
use Rattle.jls_partial.specs.TextInto.{with_entries}
use Rattle.jls_partial.specs.TextReading.{entries_fields}
use Rattle.jls_partial.proofs.Growth.{IsSoFar}
use Rattle.jls_partial.proofs.text_reading.read_entries.Given as goal

-- the entries so far are taken, and reading the rest gives what reading all gives
abbrev pub invariant-loop : goal.invariant-loop
invariant-loop l = record {
  shape : l.partial.shape ≡ l.fn.partial.shape;
  same : with_entries l.partial (entries_fields l.form.size l.form.version l.fn.partial.shape l.before (l.count - l.counter) l.rest)
      ≡ with_entries l.fn.partial (entries_fields l.fn.form.size l.fn.form.version l.fn.partial.shape None l.fn.count l.fn.bytes);
  so_far : IsSoFar l.fn.partial l.partial (entries_prefix l.fn.form.size l.fn.form.version l.fn.partial.shape None l.fn.count l.fn.bytes)
      (entries_prefix l.form.size l.form.version l.fn.partial.shape l.before (l.count - l.counter) l.rest);
}
