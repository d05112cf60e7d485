use Rattle.std.proofs.Common.{◌≡◌, false, take}
use Rattle.jls_carried.specs.CodingLines.{is_stranger}
use Rattle.jls_carried.proofs.coding_lines.is_stranger.Given as goal

abbrev pub invariant-loop-stranger : goal.invariant-loop-stranger
invariant-loop-stranger l = is_stranger (take l.stranger-index l.strangers) l.number ≡ false
