use Rattle.std.proofs.Common.{◌≡◌, ℕ, ◌<◌}
use Rattle.jls_splice_run.specs.Listing.{numbered}
use Rattle.jls_splice_run.proofs.listing.is_numbered.Given as goal

abbrev pub invariant-loop-number : goal.invariant-loop-number
invariant-loop-number l = (number : ℕ) → 0 < number → number < l.number → l.name ≡ numbered l.prefix number → ⊥
