use Rattle.std.proofs.Common.{map}
use Rattle.std.specs.List.{AllByRecursion}
use Rattle.jls_partial.specs.Entries.{kept_readings}
use Rattle.jls_partial.specs.Held.{IsLineEntry, kept_entry}
use Rattle.jls_partial.specs.Text.{entries}
use Rattle.jls_partial.proofs.Growth.{IsSoFar}
use Rattle.jls_partial.proofs.merging.merge_entries.Given as goal

-- the readings of the entries so far are taken
abbrev pub invariant-loop-at : goal.invariant-loop-at
invariant-loop-at l = record {
  so_far : IsSoFar l.fn.into l.into (kept_readings (entries l.other)) (kept_readings (map kept_entry l.at-iterator));
  each : AllByRecursion (IsLineEntry l.other.shape) l.at-iterator;
}
