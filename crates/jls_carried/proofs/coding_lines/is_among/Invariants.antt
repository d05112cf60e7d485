use Rattle.std.proofs.Common.{◌≡◌, false, take}
use Rattle.std.specs.Prelude.{nat_eq}
use Rattle.std.specs.List.{list_any}
use Rattle.jls_held.specs.Judging.{coding_of}
use Rattle.jls_carried.proofs.coding_lines.is_among.Given as goal

abbrev pub invariant-loop-copy : goal.invariant-loop-copy
invariant-loop-copy l = list_any (λ e. nat_eq e.number l.number) (coding_of (take l.copy-index l.copies)) ≡ false
