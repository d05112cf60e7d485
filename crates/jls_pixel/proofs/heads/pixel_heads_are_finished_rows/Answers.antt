use Rattle.jls_pixel.proofs.HeadRows.{head_is}
use Rattle.jls_pixel.proofs.heads.pixel_heads_are_finished_rows.Goals as goal

pub returns : goal.returns
returns c = λ i some given cut. head_is i.params i.width i.components some i.row_count given cut
