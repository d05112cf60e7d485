use Rattle.jls_salvage_run.proofs.Finished.{joins_finished}
use Rattle.jls_salvage_run.proofs.run_laws.done_joins_ran.Goals as goal

pub returns : goal.returns
returns c = joins_finished
