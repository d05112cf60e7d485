use Rattle.std.proofs.Common.{◌≡◌, ◌++◌, drop, map}
use Rattle.jls_mend.specs.Asking.{places_of}
use Rattle.jls_c.specs.Copies.{listed}
use Rattle.jls_c.proofs.copies.lists_in.Given as goal

-- the lists so far, and the others
abbrev pub invariant-loop-list : goal.invariant-loop-list
invariant-loop-list l = map places_of l.bad.items ++ listed (drop l.list-index l.lists) l.rest ≡ listed l.lists l.texts
