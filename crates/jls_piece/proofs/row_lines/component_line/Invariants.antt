use Rattle.std.proofs.Common.{◌≡◌, take}
use Rattle.jls_pixel.specs.Pixels.{samples_of}
use Rattle.jls_piece.proofs.row_lines.component_line.Given as goal

-- the line has the samples of the pixels so far
abbrev pub invariant-loop-pixel : goal.invariant-loop-pixel
invariant-loop-pixel l = l.line.items ≡ samples_of l.component (take l.pixel-index l.row)
