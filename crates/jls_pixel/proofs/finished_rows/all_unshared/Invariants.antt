use Rattle.std.proofs.Common.{◌≡◌, ◌++◌, map}
use Rattle.std.specs.Vec.Iter.{into_iter_items}
use Rattle.jls_pixel.specs.FinishedRows.{rows_of}
use Rattle.jls_pixel.proofs.finished_rows.all_unshared.Given as goal

-- the rows so far, and those that are left
abbrev pub invariant-loop-row : goal.invariant-loop-row
invariant-loop-row l = map (λ v. v.items) l.all.items ++ rows_of (into_iter_items l.row-iterator) ≡ rows_of l.fn.rows.items
