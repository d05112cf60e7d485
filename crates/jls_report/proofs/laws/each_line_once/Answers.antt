use Rattle.jls_report.proofs.EachLine.{each_line_once}
use Rattle.jls_report.proofs.laws.each_line_once.Goals as goal

pub returns : goal.returns
returns c = each_line_once
