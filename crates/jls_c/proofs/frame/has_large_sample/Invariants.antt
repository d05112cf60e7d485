use Rattle.std.proofs.Common.{◌≡◌, ◌^◌, take}
use Rattle.std.specs.Prelude.{nat_le}
use Rattle.std.specs.List.{list_any}
use Rattle.jls_c.proofs.frame.has_large_sample.Given as goal

abbrev pub invariant-loop-sample : goal.invariant-loop-sample
invariant-loop-sample l = l.is_large ≡ list_any (λ x. nat_le (2 ^ l.precision) x) (take l.sample-index l.samples)
