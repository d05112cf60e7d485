use Rattle.jls_report.proofs.AllLines.{counts_are_all_lines}
use Rattle.jls_report.proofs.laws.counts_are_all_lines.Goals as goal

pub returns : goal.returns
returns c = counts_are_all_lines
