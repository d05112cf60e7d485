use Rattle.jls_salvage_run.proofs.Finished.{checks_finished}
use Rattle.jls_salvage_run.proofs.run_laws.done_checks_ran.Goals as goal

pub returns : goal.returns
returns c = checks_finished
