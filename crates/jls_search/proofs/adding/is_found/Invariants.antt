use Rattle.std.proofs.Common.{take}
use Rattle.jls_search.proofs.GroupSights.{NoneIs}
use Rattle.jls_search.proofs.adding.is_found.Given as goal

abbrev pub invariant-loop-number : goal.invariant-loop-number
invariant-loop-number l = NoneIs l.path (take l.number l.found)
