use Rattle.std.proofs.Common.{◌≡◌, ◌-◌, None}
use Rattle.jls_partial.specs.TextReading.{sources_fields}
use Rattle.jls_partial.proofs.TextLoops.{after_samples}
use Rattle.jls_partial.proofs.text_reading.read_sources.Given as goal

-- the sources so far, with what reading the rest gives, are what reading all gives
abbrev pub invariant-loop : goal.invariant-loop
invariant-loop l = after_samples l.sources.items (sources_fields l.size l.before (l.count - l.counter) l.rest)
    ≡ sources_fields l.fn.size None l.fn.count l.fn.bytes
