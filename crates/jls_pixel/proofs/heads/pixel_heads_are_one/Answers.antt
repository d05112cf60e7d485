use Rattle.jls_pixel.proofs.HeadRows.{one_head}
use Rattle.jls_pixel.proofs.heads.pixel_heads_are_one.Goals as goal

pub returns : goal.returns
returns c = λ i ok some given xs ys. one_head i.params i.width i.components i.row_count ok some given xs ys
