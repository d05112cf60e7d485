use Rattle.std.proofs.Common.{take}
use Rattle.jls_bad.specs.Inside.{AreMarked}
use Rattle.jls_bad.proofs.filling.all_marked.Given as goal

abbrev pub invariant-loop-copy : goal.invariant-loop-copy
invariant-loop-copy l = AreMarked (take l.copy-index l.copies) l.all.items
