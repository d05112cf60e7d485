use Rattle.std.proofs.Common.{◌≡◌, ◌^◌, take}
use Rattle.std.specs.Prelude.{nat_le}
use Rattle.std.specs.List.{list_any}
use Rattle.jls_partial.proofs.insert_fault.has_large_sample.Given as goal

-- the OR of the samples so far is too large exactly if one of them is
abbrev pub invariant-loop-x : goal.invariant-loop-x
invariant-loop-x l = nat_le (2 ^ l.precision) l.union ≡ list_any (λ x. nat_le (2 ^ l.precision) x) (take l.x-index l.samples)
