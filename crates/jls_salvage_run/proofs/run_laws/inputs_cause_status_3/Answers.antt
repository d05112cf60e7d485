use Rattle.jls_salvage_run.proofs.RefusedRuns.{inputs_after}
use Rattle.jls_salvage_run.proofs.run_laws.inputs_cause_status_3.Goals as goal

pub returns : goal.returns
returns c = inputs_after
