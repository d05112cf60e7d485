use Rattle.std.proofs.Common.{◌≡◌, ℕ, ◌-◌, ◌<◌, false, length, get_or}
use Rattle.jls_bad.proofs.known.write_faults.Given as goal

abbrev pub invariant-loop-at : goal.invariant-loop-at
invariant-loop-at l = record {
  size : length l.bytes.items ≡ length l.initial.bytes.items;
  kept : (k : ℕ) → get_or l.is_lost k false ≡ false → (0 < k → get_or l.is_lost (k - 1) false ≡ false) → get_or l.bytes.items k 0 ≡ get_or l.initial.bytes.items k 0;
  kept_markers : (k : ℕ) → get_or l.is_lost k false ≡ false → get_or l.initial.bytes.items k 0 ≡ 0xFF → get_or l.bytes.items k 0 ≡ 0xFF;
}
