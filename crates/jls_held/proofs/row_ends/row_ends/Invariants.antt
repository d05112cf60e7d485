use Rattle.std.proofs.Common.{◌≡◌, ◌<◌, ◌≤◌, ◌-◌, length, take, Some}
use Rattle.jls_pixel.specs.Pixels.{pixel_shape}
use Rattle.jls_piece.specs.Lines.{pixel_piece}
use Rattle.jls_held.specs.RowEnds.{HasAtMost, AreRowEnds}
use Rattle.jls_held.proofs.row_ends.row_ends.Given as goal

-- the ends so far are those of first rows, and the others stand behind the place
abbrev pub invariant-loop-at : goal.invariant-loop-at
invariant-loop-at l = record {
  some : 0 < l.step;
  within : l.at ≤ length l.bytes;
  given : l.decoder ≡ record {
    parameters = l.params;
    width = l.width;
    components = l.components;
    rows = l.rows;
    bytes = Some (take l.at l.bytes);
  };
  before : HasAtMost (pixel_piece (pixel_shape l.params l.width l.components l.rows)) (take l.at l.bytes) (length l.ends.items);
  known : AreRowEnds (pixel_piece (pixel_shape l.params l.width l.components l.rows)) l.bytes l.ends.items;
}

abbrev pub decreases-loop-at : goal.decreases-loop-at
decreases-loop-at l = length l.bytes - l.at
