use Rattle.std.proofs.Common.{◌≡◌, ◌+◌, drop}
use Rattle.std.specs.List.{sum}
use Rattle.jls_c.proofs.copies.add_up.Given as goal

-- what is left is what the other sizes may have
abbrev pub invariant-loop-size : goal.invariant-loop-size
invariant-loop-size l = l.left + sum l.sizes ≡ l.count + sum (drop l.size-index l.sizes)
