use Rattle.jls_diff.proofs.Splices.{splices_are_listed}
use Rattle.jls_diff.proofs.laws.splices_are_listed.Goals as goal

pub returns : goal.returns
returns c = splices_are_listed
