use Rattle.std.proofs.Common.{rules}
use Rattle.jls_marker.proofs.Intervals.{scan_is}
use Rattle.jls_marker.proofs.scan_plan.ScanPlan.new.Goals as goal

pub invariant_of-result : goal.invariant_of-result
invariant_of-result c =
    scan_is _ c.requires.params (search rules) (search rules) (search rules) (search rules) (search rules) (search rules) c.requires.bytes
    (search rules)
