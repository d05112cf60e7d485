use Rattle.std.proofs.Common.{◌≡◌, ℕ, ◌<◌, ◌≤◌, ◌||◌, true, false, length, get_or, take}
use Rattle.jls_bad.specs.Known.{is_bad}
use Rattle.jls_bad.proofs.marks.mark_all.Given as goal

abbrev pub invariant-loop-place : goal.invariant-loop-place
invariant-loop-place l = record {
  begin : l.run.begin ≤ l.run.end;
  end : l.run.end ≤ length l.marks;
  marked : (at : ℕ) → l.run.begin ≤ at → at < l.run.end → get_or l.marks at false ≡ true;
  marks : (at : ℕ) → at < length l.initial.marks → get_or l.marks at false ≡ (get_or l.initial.marks at false || is_bad (take l.place-index l.places) at);
}
