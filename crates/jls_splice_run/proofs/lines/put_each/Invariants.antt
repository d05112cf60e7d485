use Rattle.std.proofs.Common.{◌≡◌, ◌++◌, take}
use Rattle.std.specs.List.{flat_map}
use Rattle.jls_splice_run.specs.Lines.{differ_line}
use Rattle.jls_splice_run.proofs.lines.put_each.Given as goal

abbrev pub invariant-loop-difference : goal.invariant-loop-difference
invariant-loop-difference l = l.out.items ≡ l.fn.out.items ++ flat_map differ_line (take l.difference-index l.differences)
