use Rattle.jls_salvage_run.proofs.Finished.{writes_stopped}
use Rattle.jls_salvage_run.proofs.run_laws.unsettled_writes_stop.Goals as goal

pub returns : goal.returns
returns c = writes_stopped
