use Rattle.std.proofs.Common.{arith}
use Rattle.jls_copy.proofs.scan.OpenScan.begin.Goals as goal

pub next_number-number-requires-clause-last : goal.next_number-number-requires-clause-last
next_number-number-requires-clause-last c = omega (arith, c.requires.last, c.intervals-count.ensures.ranges.intervals_below)

pub open-requires : goal.open-requires
open-requires c =
    omega (arith, c.requires.last, c.intervals-count.ensures.ranges.intervals_below, c.next_number-number.ensures.at_most)
