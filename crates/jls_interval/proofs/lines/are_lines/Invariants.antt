use Rattle.std.proofs.Common.{map, take}
use Rattle.std.specs.List.{AllByRecursion}
use Rattle.jls_interval.specs.Lines.{IsLine}
use Rattle.jls_interval.proofs.lines.are_lines.Given as goal

-- the lines so far are lines
abbrev pub invariant-loop-line : goal.invariant-loop-line
invariant-loop-line l =
    AllByRecursion (IsLine l.params l.width) (map (λ line. line.now) (take l.line-index l.lines))
