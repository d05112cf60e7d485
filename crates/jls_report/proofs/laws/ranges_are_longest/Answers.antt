use Rattle.jls_report.proofs.LongestRanges.{ranges_are_longest}
use Rattle.jls_report.proofs.laws.ranges_are_longest.Goals as goal

pub returns : goal.returns
returns c = ranges_are_longest
