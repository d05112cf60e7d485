use Rattle.std.proofs.Common.{◌≡◌, true, take}
use Rattle.jls_held.specs.Judging.{coding_of}
use Rattle.jls_carried.specs.CodingLines.{has_each_a_line}
use Rattle.jls_carried.proofs.coding_lines.has_each_a_line.Given as goal

abbrev pub invariant-loop-copy : goal.invariant-loop-copy
invariant-loop-copy l = has_each_a_line (coding_of (take l.copy-index l.copies)) ≡ true
