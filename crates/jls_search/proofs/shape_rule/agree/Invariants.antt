use Rattle.std.proofs.Common.{take}
use Rattle.std.specs.List.{AllByRecursion}
use Rattle.jls_search.specs.Seen.{HasItIfFaultless}
use Rattle.jls_search.proofs.shape_rule.agree.Given as goal

abbrev pub invariant-loop-file : goal.invariant-loop-file
invariant-loop-file l = AllByRecursion (HasItIfFaultless l.shape) (take l.file-index l.seen)
