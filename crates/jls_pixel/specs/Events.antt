-- The events of an interval by sample: the pixels of its rows, parted into pixels in regular mode and runs (T.87 A.3.2, A.7, B.2).
use Rattle.std.specs.Prelude.{ℕ, suc, Bool, true, false, ◌||◌, nat_eq, if◌then◌else◌, List, [], ◌∷◌, ◌++◌}
use Rattle.std.specs.Cmp.Lexicographic.{pointwise}
use Rattle.jls_context.specs.declared.mode.Neighbours.{Neighbours}
use Rattle.jls_pixel.specs.Pixels.{RowsAbove, rows_above, pixel_neighbours, is_run_pixel, run_value}

-- a pixel in regular mode, a run to the end of its row, or an interrupted run (T.87 A.3.2, A.7)
pub data Event : Type 0 where
  -- one pixel in regular mode: the neighbours of each component, and its samples
  regular_pixel : List Neighbours → List ℕ → Event
  -- a run of so many pixels to the end of the row
  run_to_end : ℕ → Event
  -- a run of so many pixels, and then the pixel that interrupts it, with the neighbours of each component
  interrupted_run : ℕ → List Neighbours → List ℕ → Event

-- The events of a row of this width, below two rows
module _ (width components : ℕ) (up : RowsAbove) where
  -- the events of the pixels `left`, which follow the pixels `row`. If `in_run`, the last `count` of those are of a run that goes on. A
  -- pixel holds a run if each of its samples is the Ra of its component (T.87 A.3.2, A.7.1, B.2)
  unfoldable pub events_from : List (List ℕ) → Bool → ℕ → List (List ℕ) → List Event
  events_from row in_run count [] = if in_run then run_to_end count ∷ [] else []
  events_from row in_run count (pixel ∷ left) =
      let near = pixel_neighbours width up row components in
      let run = in_run || is_run_pixel near in
      let holds = pointwise nat_eq pixel (run_value near) in
      let goes_on = events_from (row ++ pixel ∷ []) true (suc count) left in
      let ended = events_from (row ++ pixel ∷ []) false 0 left in
      if run then (if holds then goes_on else interrupted_run count near pixel ∷ ended)
      else regular_pixel near pixel ∷ ended

-- the events of these rows, which follow the rows before
unfoldable pub events_after : ℕ → ℕ → List (List (List ℕ)) → List (List (List ℕ)) → List Event
events_after width components before [] = []
events_after width components before (row ∷ rows) =
    events_from width components (rows_above before) [] false 0 row ++ events_after width components (before ++ row ∷ []) rows

-- the events of an interval: those of each row, in order. For rows as `AreRows` has them no others lead to them, as the law
-- `growth_ends_in_rows` says
abbrev pub events : ℕ → ℕ → List (List (List ℕ)) → List Event
events width components rows = events_after width components [] rows
