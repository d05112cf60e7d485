use Rattle.jls_pixel.proofs.HeadRows.{read_has_none}
use Rattle.jls_pixel.proofs.heads.read_pixel_pieces_have_no_head.Goals as goal

pub returns : goal.returns
returns c = λ i ok some piece rows head. read_has_none i.params i.width i.components i.row_count ok some piece rows head
