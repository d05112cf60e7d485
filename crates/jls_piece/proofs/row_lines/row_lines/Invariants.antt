use Rattle.std.proofs.Common.{◌≡◌, map}
use Rattle.jls_piece.specs.Lines.{lines_of}
use Rattle.jls_piece.proofs.row_lines.row_lines.Given as goal

-- the lines of the rows so far are there
abbrev pub invariant-loop-row : goal.invariant-loop-row
invariant-loop-row l = map (λ v. v.items) l.lines.items ≡ lines_of l.components (map (λ v. v.items) l.yielded)
