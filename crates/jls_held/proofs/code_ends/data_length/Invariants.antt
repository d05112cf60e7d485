use Rattle.std.proofs.Common.{◌≡◌, true, take}
use Rattle.jls_bits.specs.Bits.{is_whole}
use Rattle.jls_bits.specs.Appending.{last_after}
use Rattle.jls_held.proofs.code_ends.data_length.Given as goal

-- the bytes so far are data bytes
abbrev pub invariant-loop-place : goal.invariant-loop-place
invariant-loop-place l = record {
  whole : is_whole (take l.place l.bytes) ≡ true;
  before_is : l.before ≡ last_after 0 (take l.place l.bytes);
}
