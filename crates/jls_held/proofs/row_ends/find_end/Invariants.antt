use Rattle.std.proofs.Common.{◌≡◌, ◌<◌, ◌≤◌, ◌-◌, take, Some}
use Rattle.jls_pixel.specs.PixelBytes.{pixels_asked}
use Rattle.jls_piece.specs.Lines.{pixel_piece}
use Rattle.jls_held.specs.RowEnds.{HasAtMost, HasMore}
use Rattle.jls_held.proofs.row_ends.find_end.Given as goal

-- the row ends between two places
abbrev pub invariant-loop-high : goal.invariant-loop-high
invariant-loop-high l = record {
  order : l.low < l.high;
  below : l.high ≤ l.to;
  given : l.decoder ≡ record l.fn.decoder { bytes = Some (take l.low l.bytes) };
  before : HasAtMost (pixel_piece (pixels_asked l.fn.decoder)) (take l.low l.bytes) l.row;
  behind : HasMore (pixel_piece (pixels_asked l.fn.decoder)) (take l.high l.bytes) l.row;
}

abbrev pub decreases-loop-high : goal.decreases-loop-high
decreases-loop-high l = l.high - l.low
