use Rattle.std.proofs.Common.{◌≡◌, ◌-◌, ◌+◌, ◌≤◌, ◌/◌, length}
use Rattle.std.specs.Prelude.{min, vec_len, vec_capacity}
use Rattle.jls_partial.specs.TextReading.{samples_fields}
use Rattle.jls_partial.proofs.TextLoops.{after_samples}
use Rattle.jls_partial.proofs.text_samples.read_each_sample.Given as goal

-- the samples so far, with what reading the rest gives, are what reading all gives
abbrev pub invariant-loop : goal.invariant-loop
invariant-loop l = record {
  room : vec_len l.samples + min (length l.rest / 2) (l.count - l.counter) ≤ vec_capacity l.samples;
  same : after_samples l.samples.items (samples_fields l.size l.limit (l.count - l.counter) l.rest)
      ≡ samples_fields l.fn.size l.fn.limit l.fn.count l.fn.bytes;
}
