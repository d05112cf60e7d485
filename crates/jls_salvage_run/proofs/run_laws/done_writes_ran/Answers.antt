use Rattle.jls_salvage_run.proofs.Finished.{writes_finished}
use Rattle.jls_salvage_run.proofs.run_laws.done_writes_ran.Goals as goal

pub returns : goal.returns
returns c = writes_finished
