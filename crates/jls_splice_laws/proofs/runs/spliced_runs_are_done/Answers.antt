use Rattle.jls_splice_laws.proofs.DoneRuns.{failed_reads_cause_status_4, spliced_runs_are_done}
use Rattle.jls_splice_laws.proofs.runs.spliced_runs_are_done.Goals as goal

pub returns-clause-done : goal.returns-clause-done
returns-clause-done c = spliced_runs_are_done

pub returns-clause-failed_reads : goal.returns-clause-failed_reads
returns-clause-failed_reads c = failed_reads_cause_status_4
