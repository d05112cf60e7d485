use Rattle.std.proofs.Common.{take}
use Rattle.std.specs.List.{AllByRecursion}
use Rattle.jls_search.specs.Seen.{IsWithoutFrame}
use Rattle.jls_search.proofs.shape_rule.first_frame.Given as goal

abbrev pub invariant-loop-file : goal.invariant-loop-file
invariant-loop-file l = AllByRecursion IsWithoutFrame (take l.file-index l.seen)
