use Rattle.jls_piece.proofs.PixelPieces.{is_pixel_interval}
use Rattle.jls_piece.proofs.laws.pixel_pieces_are_intervals.Goals as goal

pub returns : goal.returns
returns c = is_pixel_interval
