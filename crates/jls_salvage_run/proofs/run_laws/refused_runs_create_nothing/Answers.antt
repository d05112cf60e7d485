use Rattle.jls_salvage_run.proofs.RunsWithoutOutput.{nothing_created}
use Rattle.jls_salvage_run.proofs.run_laws.refused_runs_create_nothing.Goals as goal

pub returns : goal.returns
returns c = nothing_created
