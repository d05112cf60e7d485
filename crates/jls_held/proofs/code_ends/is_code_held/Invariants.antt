use Rattle.std.proofs.Common.{◌≡◌, ℕ, ◌+◌, ◌<◌, ◌≤◌, true, false, get_or}
use Rattle.jls_held.proofs.code_ends.is_code_held.Given as goal

-- the bytes so far are held
abbrev pub invariant-loop-place : goal.invariant-loop-place
invariant-loop-place l = (place : ℕ) → l.fn.start.bytes ≤ place → place < l.place → get_or l.held (l.offset + place) false ≡ true
