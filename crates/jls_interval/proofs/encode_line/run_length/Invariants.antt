use Rattle.std.proofs.Common.{◌≡◌, ℕ, ◌-◌, ◌<◌, ◌≤◌, length, get_or}
use Rattle.jls_interval.proofs.encode_line.run_length.Given as goal

-- the samples so far have the value
abbrev pub invariant-loop-count : goal.invariant-loop-count
invariant-loop-count l = record {
  within : l.count ≤ length l.samples;
  passed : (k : ℕ) → k < l.count → get_or l.samples k 0 ≡ l.value;
}

abbrev pub decreases-loop-count : goal.decreases-loop-count
decreases-loop-count l = length l.samples - l.count

-- the samples so far have the value
abbrev pub invariant-loop-count-2 : goal.invariant-loop-count-2
invariant-loop-count-2 l = record {
  within : l.count ≤ length l.samples;
  passed : (k : ℕ) → k < l.count → get_or l.samples k 0 ≡ l.value;
}

abbrev pub decreases-loop-count-2 : goal.decreases-loop-count-2
decreases-loop-count-2 l = length l.samples - l.count
