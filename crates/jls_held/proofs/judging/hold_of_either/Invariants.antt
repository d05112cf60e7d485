use Rattle.std.proofs.Common.{◌≡◌, length}
use Rattle.jls_held.specs.Edits.{held_by_either}
use Rattle.jls_held.proofs.HeldMarks.{IsMergedTo}
use Rattle.jls_held.proofs.judging.hold_of_either.Given as goal

-- the first i marks are merged
abbrev pub invariant-loop-i : goal.invariant-loop-i
invariant-loop-i l = record {
  as_long : length l.held.items ≡ length l.others;
  merged : IsMergedTo (held_by_either l.fn.held.items l.others) l.others l.i l.held.items;
}
