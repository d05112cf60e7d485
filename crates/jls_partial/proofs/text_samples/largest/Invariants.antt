use Rattle.std.proofs.Common.{◌≤◌, take}
use Rattle.std.specs.Prelude.{All}
use Rattle.jls_partial.proofs.text_samples.largest.Given as goal

-- no sample so far is above the largest
abbrev pub invariant-loop-sample : goal.invariant-loop-sample
invariant-loop-sample l = All (λ x. x ≤ l.largest) (take l.sample-index l.samples)
