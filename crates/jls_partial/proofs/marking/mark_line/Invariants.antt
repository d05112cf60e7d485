use Rattle.std.proofs.Common.{◌≡◌, map, take}
use Rattle.jls_partial.specs.Partial.{readings_at, with_marks}
use Rattle.jls_partial.specs.Reading.{reading_of}
use Rattle.jls_partial.proofs.marking.mark_line.Given as goal

-- the first i readings of the line have the source
abbrev pub invariant-loop-i : goal.invariant-loop-i
invariant-loop-i l = l.partial
    ≡ with_marks l.fn.partial l.source (map (reading_of l.component l.line) (take l.i (readings_at l.fn.partial l.component l.line)))
