use Rattle.std.proofs.Common.{take}
use Rattle.std.specs.List.{AllByRecursion}
use Rattle.jls_search.specs.Seen.{HasOtherFrame}
use Rattle.jls_search.proofs.shape_rule.first_other.Given as goal

abbrev pub invariant-loop-copy : goal.invariant-loop-copy
invariant-loop-copy l = AllByRecursion (λ file. HasOtherFrame l.shape file → ⊥) (take l.copy l.seen)
