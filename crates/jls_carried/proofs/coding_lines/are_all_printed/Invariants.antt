use Rattle.std.proofs.Common.{◌≡◌, true, take}
use Rattle.jls_held.specs.Judging.{codings_of}
use Rattle.jls_carried.specs.CodingLines.{are_all_printed}
use Rattle.jls_carried.proofs.coding_lines.are_all_printed.Given as goal

abbrev pub invariant-loop-copies : goal.invariant-loop-copies
invariant-loop-copies l = are_all_printed (codings_of (take l.copies-index l.codings)) ≡ true
