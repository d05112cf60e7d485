use Rattle.jls_report.proofs.EntryCounts.{counts_are_of_entries}
use Rattle.jls_report.proofs.laws.counts_are_of_entries.Goals as goal

pub returns : goal.returns
returns c = counts_are_of_entries
