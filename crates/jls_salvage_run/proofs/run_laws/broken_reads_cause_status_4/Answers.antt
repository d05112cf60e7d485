use Rattle.jls_salvage_run.proofs.BrokenReads.{broken_reads_after}
use Rattle.jls_salvage_run.proofs.run_laws.broken_reads_cause_status_4.Goals as goal

pub returns : goal.returns
returns c = broken_reads_after
