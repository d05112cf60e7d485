use Rattle.std.proofs.Common.{◌≡◌, take, map}
use Rattle.jls_interval.proofs.finished_lines.cloned_lines.Given as goal

-- the lines so far are cloned
abbrev pub invariant-loop-line : goal.invariant-loop-line
invariant-loop-line l = map (λ v. v.items) l.clones.items ≡ map (λ v. v.items) (take l.line-index l.lines)
