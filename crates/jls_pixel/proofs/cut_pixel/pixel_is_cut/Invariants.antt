use Rattle.std.proofs.Common.{◌≡◌, ◌≤◌, List, length}
use Rattle.std.specs.List.{AllByRecursion}
use Rattle.jls_pixel.specs.Pixels.{component_neighbours}
use Rattle.jls_pixel.specs.Place.{above_of}
use Rattle.jls_pixel.specs.Cells.{CodedSample}
use Rattle.jls_pixel.specs.After.{CellsAfter}
use Rattle.jls_pixel.proofs.PixelBegun.{PixelBegun}
use Rattle.jls_pixel.proofs.cut_pixel.pixel_is_cut.Given as goal

abbrev pub invariant-loop-component : goal.invariant-loop-component
invariant-loop-component l = record {
  begun : (earlier : List CodedSample) → CellsAfter l.initial.coder.cells.parameters l.initial.coder.cells earlier
      → PixelBegun l.initial.coder.cells.parameters l.kind (component_neighbours l.place.width (above_of l.place) l.row) l.place.components
      l.initial.pending earlier l.pixel l.component l.coder.cells l.pending;
  count : length l.pixel ≡ l.component;
  small : AllByRecursion (λ s. s ≤ l.initial.coder.cells.parameters.maxval) l.pixel;
  parameters : l.coder.cells.parameters ≡ l.initial.coder.cells.parameters;
}
