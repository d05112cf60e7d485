use Rattle.jls_pixel.proofs.HeadRows.{cut_code_cuts, cut_code}
use Rattle.jls_pixel.proofs.heads.pixel_cuts_are_exact.Goals as goal

pub returns : goal.returns
returns c = λ i some given. (
  cut_code_cuts i.params i.width i.components some i.row_count given,
  cut_code i.params i.width i.components some i.row_count given,
)
