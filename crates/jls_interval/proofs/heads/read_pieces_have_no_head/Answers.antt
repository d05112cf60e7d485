use Rattle.jls_interval.proofs.HeadLines.{read_has_none}
use Rattle.jls_interval.proofs.heads.read_pieces_have_no_head.Goals as goal

pub returns : goal.returns
returns c = λ i ok some piece lines head. read_has_none i.params i.width i.components i.line_count ok some piece lines head
