use Rattle.std.proofs.Common.{◌≡◌, map, take}
use Rattle.jls_held.specs.FilePieces.{lines_of}
use Rattle.jls_held.proofs.code_ends.line_ends.Given as goal

-- the lines so far are the first of the piece
abbrev pub invariant-loop-line : goal.invariant-loop-line
invariant-loop-line l = map (λ line. line.now) l.lines.items ≡ take l.line-index (lines_of l.piece)
