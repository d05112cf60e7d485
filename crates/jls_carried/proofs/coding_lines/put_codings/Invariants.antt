use Rattle.std.proofs.Common.{◌≡◌, ◌++◌, take}
use Rattle.jls_held.specs.Judging.{codings_of}
use Rattle.jls_carried.specs.CodingLines.{coding_lines_from}
use Rattle.jls_carried.proofs.coding_lines.put_codings.Given as goal

abbrev pub invariant-loop-place : goal.invariant-loop-place
invariant-loop-place l = l.out.items ≡ l.fn.out.items ++ coding_lines_from 1 (codings_of (take l.place l.codings))
