use Rattle.std.proofs.Common.{take}
use Rattle.std.specs.List.{AllByRecursion}
use Rattle.jls_diff.specs.Parts.{HasWays}
use Rattle.jls_diff.specs.PartsOf.{parts_of}
use Rattle.jls_diff.proofs.checking.parts_have_ways.Given as goal

abbrev pub invariant-loop-part : goal.invariant-loop-part
invariant-loop-part l = AllByRecursion (HasWays l.count) (parts_of (take l.part-index l.parts))
