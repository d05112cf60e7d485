use Rattle.std.proofs.Common.{◌≡◌, false, take}
use Rattle.jls_held.specs.Judging.{codings_of}
use Rattle.jls_carried.specs.CodingLines.{is_listed}
use Rattle.jls_carried.proofs.coding_lines.is_listed.Given as goal

abbrev pub invariant-loop-copies : goal.invariant-loop-copies
invariant-loop-copies l = is_listed (codings_of (take l.copies-index l.codings)) l.number ≡ false
