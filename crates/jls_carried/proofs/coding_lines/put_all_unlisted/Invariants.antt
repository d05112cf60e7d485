use Rattle.std.proofs.Common.{◌≡◌, ◌++◌}
use Rattle.jls_held.specs.Judging.{codings_of}
use Rattle.jls_carried.specs.CodingLines.{unlisted_lines}
use Rattle.jls_carried.proofs.coding_lines.put_all_unlisted.Given as goal

abbrev pub invariant-loop-number : goal.invariant-loop-number
invariant-loop-number l = l.out.items ≡ l.fn.out.items ++ unlisted_lines l.number (codings_of l.codings) l.strangers
