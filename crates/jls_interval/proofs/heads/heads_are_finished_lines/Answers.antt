use Rattle.jls_interval.proofs.HeadLines.{head_is}
use Rattle.jls_interval.proofs.heads.heads_are_finished_lines.Goals as goal

pub returns : goal.returns
returns c = λ i some given cut. head_is i.params i.width i.components some i.line_count given cut
