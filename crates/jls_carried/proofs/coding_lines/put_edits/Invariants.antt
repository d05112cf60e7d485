use Rattle.std.proofs.Common.{◌≡◌, ◌++◌, take}
use Rattle.std.specs.List.{flat_map}
use Rattle.jls_held.specs.Mending.{edits_of}
use Rattle.jls_carried.specs.CodingLines.{edit_line}
use Rattle.jls_carried.proofs.coding_lines.put_edits.Given as goal

abbrev pub invariant-loop-edit : goal.invariant-loop-edit
invariant-loop-edit l = l.out.items ≡ l.fn.out.items ++ flat_map (edit_line l.number) (edits_of (take l.edit-index l.edits))
