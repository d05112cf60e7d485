use Rattle.std.proofs.Common.{◌≡◌, ◌++◌, map}
use Rattle.jls_piece.specs.Lines.{turned}
use Rattle.jls_piece.proofs.row_lines.push_row.Given as goal

-- the lines of the components so far are pushed
abbrev pub invariant-loop-component : goal.invariant-loop-component
invariant-loop-component l =
    map (λ v. v.items) l.lines.items ≡ map (λ v. v.items) l.initial.lines.items ++ turned l.component l.row
