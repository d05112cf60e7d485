use Rattle.jls_salvage_run.proofs.FailedRuns.{failures_after}
use Rattle.jls_salvage_run.proofs.run_laws.failures_cause_status_4.Goals as goal

pub returns : goal.returns
returns c = failures_after
