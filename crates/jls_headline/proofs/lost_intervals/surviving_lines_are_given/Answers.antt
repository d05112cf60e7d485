use Rattle.jls_headline.proofs.LostIntervals.{surviving_lines_are_given}
use Rattle.jls_headline.proofs.lost_intervals.surviving_lines_are_given.Goals as goal

pub returns : goal.returns
returns c = surviving_lines_are_given
