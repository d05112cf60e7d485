use Rattle.jls_report.proofs.LongestRanges.{disputed_are_listed}
use Rattle.jls_report.proofs.laws.disputed_are_listed.Goals as goal

pub returns : goal.returns
returns c = disputed_are_listed
