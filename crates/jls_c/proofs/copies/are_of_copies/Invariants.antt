use Rattle.std.proofs.Common.{take}
use Rattle.std.specs.List.{AllByRecursion}
use Rattle.jls_mend.specs.Asking.{IsNumberOf}
use Rattle.jls_c.proofs.copies.are_of_copies.Given as goal

abbrev pub invariant-loop-list : goal.invariant-loop-list
invariant-loop-list l = AllByRecursion (λ p. IsNumberOf l.count p.copy) (take l.list-index l.lists)
