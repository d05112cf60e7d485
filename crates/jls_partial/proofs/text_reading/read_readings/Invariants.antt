use Rattle.std.proofs.Common.{◌≡◌, ◌-◌, map, None}
use Rattle.std.specs.Option.{option_map}
use Rattle.jls_partial.specs.Entries.{kept_at_place}
use Rattle.jls_partial.specs.TextPrefix.{readings_prefix}
use Rattle.jls_partial.specs.TextInto.{with_readings}
use Rattle.jls_partial.specs.TextReading.{readings_fields}
use Rattle.jls_partial.proofs.Growth.{IsSoFar}
use Rattle.jls_partial.proofs.text_reading.read_readings.Given as goal

-- before each reading: those before it are taken, and reading the rest gives what reading all gives
abbrev pub invariant-loop : goal.invariant-loop
invariant-loop l = record {
  shape : l.partial.shape ≡ l.fn.partial.shape;
  same : with_readings l.partial l.at
      (readings_fields l.form.size l.form.version l.fn.partial.shape (option_map (λ v. v.items) l.before) (l.count - l.counter) l.rest)
      ≡ with_readings l.fn.partial l.fn.at (readings_fields l.fn.form.size l.fn.form.version l.fn.partial.shape None l.fn.count l.fn.bytes);
  so_far : IsSoFar l.fn.partial l.partial
      (map (kept_at_place l.fn.at) (readings_prefix l.fn.form.size l.fn.form.version l.fn.partial.shape None l.fn.count l.fn.bytes))
      (map (kept_at_place l.at) (readings_prefix l.form.size l.form.version l.fn.partial.shape (option_map (λ v. v.items) l.before)
      (l.count - l.counter) l.rest));
}
