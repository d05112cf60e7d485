use Rattle.std.proofs.Common.{◌≡◌, ◌-◌, map}
use Rattle.std.specs.List.{list_all, range_with_len}
use Rattle.jls_context.specs.Mode.{is_run_mode}
use Rattle.jls_pixel.specs.Pixels.{component_neighbours, pixel_neighbours, is_run_pixel}
use Rattle.jls_pixel.specs.Place.{above_of}
use Rattle.jls_pixel.proofs.place.Place.is_run.Given as goal

abbrev pub invariant-loop-component : goal.invariant-loop-component
invariant-loop-component l = record {
  rest : is_run_pixel (pixel_neighbours l.self.width (above_of l.self) l.row l.self.components)
      ≡ list_all is_run_mode (map (component_neighbours l.self.width (above_of l.self) l.row) (range_with_len l.component
      (l.self.components - l.component)));
}
