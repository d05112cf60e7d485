use Rattle.std.proofs.Common.{map}
use Rattle.jls_partial.specs.Held.{kept_entry}
use Rattle.jls_partial.specs.Text.{entries}
use Rattle.jls_partial.proofs.SameEntries.{GoAlong}
use Rattle.jls_partial.proofs.equality.same_entries.Given as goal

-- both have the same entries so far
abbrev pub invariant-loop-at : goal.invariant-loop-at
invariant-loop-at l = GoAlong (entries l.one) (entries l.other) (map kept_entry l.at-iterator) (map kept_entry l.left)
