use Rattle.std.proofs.Common.{map, take}
use Rattle.std.specs.List.{AllByRecursion}
use Rattle.jls_mend.specs.Asking.{IsNumberOf, places_of}
use Rattle.jls_mend.proofs.asking.are_of_copies.Given as goal

abbrev pub invariant-loop-list : goal.invariant-loop-list
invariant-loop-list l = AllByRecursion (λ p. IsNumberOf l.count p.copy) (map places_of (take l.list-index l.bad))
