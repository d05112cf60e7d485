use Rattle.jls_diff.specs.PartsOf.{parts_of}
use Rattle.jls_diff.specs.Groups.{AreGroupsFound}
use Rattle.jls_diff.proofs.grouping.found_in.Given as goal

abbrev pub invariant-loop-part : goal.invariant-loop-part
invariant-loop-part l = AreGroupsFound (parts_of l.parts) l.part l.found
