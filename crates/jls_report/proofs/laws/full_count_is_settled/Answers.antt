use Rattle.jls_report.proofs.FullCount.{full_count}
use Rattle.jls_report.proofs.laws.full_count_is_settled.Goals as goal

pub returns : goal.returns
returns c = full_count
