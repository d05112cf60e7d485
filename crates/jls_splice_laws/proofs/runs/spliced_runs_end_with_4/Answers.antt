use Rattle.jls_splice_laws.proofs.FailedRuns.{runs_end_with_4, failures_cause_status_4, broken_reads_cause_status_4}
use Rattle.jls_splice_laws.proofs.runs.spliced_runs_end_with_4.Goals as goal

pub returns-clause-ends : goal.returns-clause-ends
returns-clause-ends c = runs_end_with_4

pub returns-clause-failures : goal.returns-clause-failures
returns-clause-failures c = failures_cause_status_4

pub returns-clause-broken_reads : goal.returns-clause-broken_reads
returns-clause-broken_reads c = broken_reads_cause_status_4
