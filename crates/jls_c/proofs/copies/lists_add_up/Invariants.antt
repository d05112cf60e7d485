use Rattle.std.proofs.Common.{◌≡◌, ◌+◌, drop, map}
use Rattle.std.specs.List.{sum}
use Rattle.jls_c.proofs.copies.lists_add_up.Given as goal

-- what is left is what the other sizes may have
abbrev pub invariant-loop-list : goal.invariant-loop-list
invariant-loop-list l = l.left + sum (map (λ each. each.size) l.lists) ≡ l.count + sum (map (λ each. each.size) (drop l.list-index l.lists))
