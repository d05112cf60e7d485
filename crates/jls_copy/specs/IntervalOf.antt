-- The shape of a scan's intervals.
use Rattle.std.specs.Prelude.{ℕ, ◌*◌, length}
use Rattle.jls_piece.specs.Lines.{PieceShape}
use Rattle.jls_marker.specs.Scan.{Scan, row_count}

-- interval k of a scan: in each of its rows a line of each component, also if the scan is interleaved by sample
abbrev pub interval_of : Scan → ℕ → PieceShape
interval_of s k =
    let components = length s.components in
    record {
      params = s.params;
      width = s.width;
      components = components;
      line_count = row_count s k * components;
      by_sample = s.by_sample;
    }
