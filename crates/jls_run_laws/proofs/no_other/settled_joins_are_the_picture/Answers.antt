use Rattle.jls_run_laws.proofs.SettledInputs.{settled_joins_are_the_picture}
use Rattle.jls_run_laws.proofs.no_other.settled_joins_are_the_picture.Goals as goal

pub returns : goal.returns
returns c = settled_joins_are_the_picture
