use Rattle.jls_salvage_run.proofs.RefusedRuns.{words_after}
use Rattle.jls_salvage_run.proofs.run_laws.words_cause_status_2.Goals as goal

pub returns : goal.returns
returns c = words_after
