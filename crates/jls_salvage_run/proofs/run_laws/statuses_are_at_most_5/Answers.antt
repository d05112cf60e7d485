use Rattle.jls_salvage_run.proofs.BrokenReads.{statuses_at_most}
use Rattle.jls_salvage_run.proofs.run_laws.statuses_are_at_most_5.Goals as goal

pub returns : goal.returns
returns c = statuses_at_most
