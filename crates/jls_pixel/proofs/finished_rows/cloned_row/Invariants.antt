use Rattle.std.proofs.Common.{◌≡◌, take}
use Rattle.jls_pixel.proofs.finished_rows.cloned_row.Given as goal

abbrev pub invariant-loop-pixel : goal.invariant-loop-pixel
invariant-loop-pixel l = l.clone.items ≡ take l.pixel-index l.row
