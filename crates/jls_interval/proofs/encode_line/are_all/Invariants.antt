use Rattle.std.proofs.Common.{◌≡◌, ℕ, ◌<◌, get_or}
use Rattle.std.specs.Prelude.{IsTrue}
use Rattle.jls_interval.proofs.encode_line.are_all.Given as goal

-- while the test holds, the samples so far have the value
abbrev pub invariant-loop-sample : goal.invariant-loop-sample
invariant-loop-sample l = IsTrue l.same → (k : ℕ) → k < l.sample-index → get_or l.samples k 0 ≡ l.value
