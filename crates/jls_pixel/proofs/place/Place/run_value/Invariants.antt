use Rattle.std.proofs.Common.{◌≡◌, ◌-◌, ◌++◌, length, map}
use Rattle.std.specs.List.{range_with_len}
use Rattle.jls_pixel.specs.Pixels.{component_neighbours, pixel_neighbours, run_value}
use Rattle.jls_pixel.specs.Place.{above_of}
use Rattle.jls_pixel.proofs.place.Place.run_value.Given as goal

abbrev pub invariant-loop-component : goal.invariant-loop-component
invariant-loop-component l = record {
  so_far : run_value (pixel_neighbours l.self.width (above_of l.self) l.row l.self.components)
      ≡ l.value ++ run_value (map (component_neighbours l.self.width (above_of l.self) l.row) (range_with_len l.component
      (l.self.components - l.component)));
  count : length l.value ≡ l.component;
}
