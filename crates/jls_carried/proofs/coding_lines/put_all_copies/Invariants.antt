use Rattle.std.proofs.Common.{◌≡◌, ◌++◌, take}
use Rattle.std.specs.List.{flat_map}
use Rattle.jls_held.specs.Judging.{codings_of}
use Rattle.jls_carried.specs.CodingLines.{copy_lines}
use Rattle.jls_carried.proofs.coding_lines.put_all_copies.Given as goal

abbrev pub invariant-loop-copies : goal.invariant-loop-copies
invariant-loop-copies l = l.out.items ≡ l.fn.out.items ++ flat_map (flat_map copy_lines) (codings_of (take l.copies-index l.codings))
