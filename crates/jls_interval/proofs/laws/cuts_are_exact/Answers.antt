use Rattle.jls_interval.proofs.CutCodes.{cut_code_cuts, cut_event_cuts}
use Rattle.jls_interval.proofs.laws.cuts_are_exact.Goals as goal

pub returns : goal.returns
returns c = λ i ok some given. (
  cut_code_cuts i.params i.width i.components i.line_count some given,
  cut_event_cuts i.params i.width i.components i.line_count some given,
)
