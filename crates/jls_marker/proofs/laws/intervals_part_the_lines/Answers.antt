use Rattle.jls_marker.proofs.Intervals
use Rattle.jls_marker.proofs.laws.intervals_part_the_lines.Goals as goal

pub returns : goal.returns
returns c = Intervals.part_the_lines
