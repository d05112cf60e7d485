use Rattle.std.proofs.Common.{◌≡◌, ℕ, ◌<◌, slice_index}
use Rattle.jls_copy.proofs.fill.fill_len.Given as goal

-- the bytes before this one are FF
abbrev pub invariant-loop-place : goal.invariant-loop-place
invariant-loop-place l = (k : ℕ) → k < l.place → slice_index l.bytes k ≡ 0xFF
