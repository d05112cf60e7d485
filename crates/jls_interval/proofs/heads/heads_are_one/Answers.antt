use Rattle.jls_interval.proofs.HeadLines.{one_head}
use Rattle.jls_interval.proofs.heads.heads_are_one.Goals as goal

pub returns : goal.returns
returns c = λ i ok some given xs ys. one_head i.params i.width i.components i.line_count ok some given xs ys
