-- A row at its place: what stands above it, and the samples round its next pixel.
use Rattle.std.specs.Prelude.{ℕ, List}
use Rattle.jls_context.specs.declared.mode.Neighbours.{Neighbours}
use Rattle.jls_pixel.specs.Pixels.{RowsAbove, component_neighbours, pixel_neighbours, run_value}
use Rattle.jls_pixel.specs.declared.place.Place.{Place}

-- the rows above that a place has
abbrev pub above_of : Place → RowsAbove
above_of place =
    record { row_above = place.row_above.now; row_two_above = place.row_two_above.now }

-- the samples round a component of the pixel that follows these pixels of the row (T.87 A.3, B.2)
abbrev pub near_at : Place → List (List ℕ) → ℕ → Neighbours
near_at place row = component_neighbours place.width (above_of place) row

-- the same of each component, in order (T.87 A.3, B.2)
abbrev pub nears_at : Place → List (List ℕ) → List Neighbours
nears_at place row = pixel_neighbours place.width (above_of place) row place.components

-- the value of a run that begins or goes on at that pixel: Ra of each component (T.87 A.7.1, B.2)
abbrev pub run_value_at : Place → List (List ℕ) → List ℕ
run_value_at place row = run_value (nears_at place row)
