use Rattle.jls_diff.proofs.Splices.{copies_are_splices}
use Rattle.jls_diff.proofs.laws.copies_are_splices.Goals as goal

pub returns : goal.returns
returns c = copies_are_splices
