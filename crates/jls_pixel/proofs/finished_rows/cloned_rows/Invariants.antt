use Rattle.std.proofs.Common.{◌≡◌, take}
use Rattle.jls_pixel.specs.FinishedRows.{rows_of}
use Rattle.jls_pixel.proofs.finished_rows.cloned_rows.Given as goal

abbrev pub invariant-loop-row : goal.invariant-loop-row
invariant-loop-row l = rows_of l.clones.items ≡ rows_of (take l.row-index l.rows)
