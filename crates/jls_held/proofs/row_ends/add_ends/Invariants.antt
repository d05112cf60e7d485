use Rattle.std.proofs.Common.{◌≡◌, ◌<◌, ◌-◌, length, take, Some}
use Rattle.jls_pixel.specs.PixelBytes.{pixels_asked}
use Rattle.jls_piece.specs.Lines.{pixel_piece}
use Rattle.jls_held.specs.RowEnds.{HasAtMost, AreRowEnds}
use Rattle.jls_held.proofs.row_ends.add_ends.Given as goal

-- the ends so far are those of first rows, and the others stand behind the place
abbrev pub invariant-loop-decoder : goal.invariant-loop-decoder
invariant-loop-decoder l = record {
  order : l.at < l.to;
  given : l.decoder ≡ record l.fn.decoder { bytes = Some (take l.at l.bytes) };
  before : HasAtMost (pixel_piece (pixels_asked l.fn.decoder)) (take l.at l.bytes) (length l.ends.items);
  known : AreRowEnds (pixel_piece (pixels_asked l.fn.decoder)) l.bytes l.ends.items;
}

abbrev pub decreases-loop-decoder : goal.decreases-loop-decoder
decreases-loop-decoder l = l.count - length l.ends.items
