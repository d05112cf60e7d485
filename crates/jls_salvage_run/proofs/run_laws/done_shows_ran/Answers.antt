use Rattle.jls_salvage_run.proofs.Finished.{shows_finished}
use Rattle.jls_salvage_run.proofs.run_laws.done_shows_ran.Goals as goal

pub returns : goal.returns
returns c = shows_finished
