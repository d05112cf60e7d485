use Rattle.std.proofs.Common.{◌≡◌, ◌≤◌, ◌+◌, ◌*◌, ◌++◌, replicate, false, vec_len, vec_capacity}
use Rattle.jls_bits.specs.Packing.{IsPacking, bits_put}
use Rattle.jls_bits.proofs.packing.Packing.put_zeros.Given as goal

-- the zeros put and those left are all of them, and there is room for the latter
abbrev pub invariant-loop-left : goal.invariant-loop-left
invariant-loop-left l = record {
  packing : IsPacking l.self;
  put : bits_put l.self ++ replicate l.left false ≡ bits_put l.initial.self ++ replicate l.count false;
  left : l.left ≤ l.count;
  capacity : vec_capacity l.self.bytes ≡ vec_capacity l.initial.self.bytes;
  growth : 7 * vec_len l.self.bytes + l.self.count + l.left ≤ 7 * vec_len l.initial.self.bytes + l.initial.self.count + l.count;
}

abbrev pub decreases-loop-left : goal.decreases-loop-left
decreases-loop-left l = l.left
