use Rattle.std.proofs.Common.{◌≡◌, ◌++◌, take}
use Rattle.std.specs.List.{flat_map}
use Rattle.jls_held.specs.Judging.{coding_of}
use Rattle.jls_carried.specs.CodingLines.{listed_number}
use Rattle.jls_carried.proofs.coding_lines.put_copies.Given as goal

abbrev pub invariant-loop-copy : goal.invariant-loop-copy
invariant-loop-copy l = l.out.items ≡ l.fn.out.items ++ flat_map listed_number (coding_of (take l.copy-index l.copies))
