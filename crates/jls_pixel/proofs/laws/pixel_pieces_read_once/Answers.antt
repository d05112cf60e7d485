use Rattle.jls_pixel.proofs.CodesApart.{reads_once, read_not_long}
use Rattle.jls_pixel.proofs.laws.pixel_pieces_read_once.Goals as goal

pub returns : goal.returns
returns c = λ i ok some piece xs read. (λ ys other. reads_once i piece ok some xs ys read other, read_not_long i piece ok some xs read)
