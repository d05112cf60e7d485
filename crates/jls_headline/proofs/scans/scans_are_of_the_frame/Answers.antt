use Rattle.jls_headline.proofs.ScansInRange.{scans_are_of_the_frame}
use Rattle.jls_headline.proofs.scans.scans_are_of_the_frame.Goals as goal

pub returns : goal.returns
returns c = scans_are_of_the_frame
