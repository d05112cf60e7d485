use Rattle.jls_pixel.proofs.CodesApart.{broken_begins_with_none, none_is_broken}
use Rattle.jls_pixel.proofs.laws.broken_pixel_pieces_begin_with_no_code.Goals as goal

pub returns : goal.returns
returns c = λ i piece. (broken_begins_with_none i piece, none_is_broken i piece)
