use Rattle.std.proofs.Common.{◌≡◌, ◌++◌, replicate}
use Rattle.jls_pixel.specs.Pixels.{pixel_neighbours, run_value}
use Rattle.jls_pixel.specs.Place.{above_of}
use Rattle.jls_pixel.proofs.event.push_run.Given as goal

abbrev pub invariant-loop-pixel : goal.invariant-loop-pixel
invariant-loop-pixel l = record {
  row_is : l.row.items ≡ l.initial.row.items
      ++ replicate l._pixel (run_value (pixel_neighbours l.place.width (above_of l.place) l.initial.row.items l.place.components));
}
