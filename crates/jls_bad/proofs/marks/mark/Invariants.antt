use Rattle.std.proofs.Common.{◌≡◌, ℕ, ◌≤◌, ◌||◌, ◌&&◌, nat_le, nat_lt, false, get_or}
use Rattle.jls_bad.proofs.marks.mark.Given as goal

abbrev pub invariant-loop-at : goal.invariant-loop-at
invariant-loop-at l = record {
  marks : (k : ℕ) → get_or l.marks k false ≡ (get_or l.initial.marks k false || (nat_le l.begin k && nat_lt k l.at));
  none : l.end ≤ l.begin → l.at ≡ l.begin;
}
