use Rattle.std.proofs.Common.{◌≡◌, ◌≤◌, ◌<◌, ◌+◌, ◌*◌, ◌^◌, ◌++◌, vec_len, vec_capacity}
use Rattle.jls_bits.specs.Bits.{bits, width_after, bits_read}
use Rattle.jls_bits.specs.Appending.{last_after, AreFilled}
use Rattle.jls_bits.specs.Packing.{bits_put}
use Rattle.jls_bits.proofs.packing.Packing.put_bytes.Given as goal

-- before each byte: the same bits are put or wait, and there is room for them
abbrev pub invariant-loop-width : goal.invariant-loop-width
invariant-loop-width l = record {
  filled : AreFilled l.self.bytes.items;
  last : l.self.last ≡ last_after 0 l.self.bytes.items;
  width : l.width ≡ width_after l.self.last;
  left : l.left < 64;
  small : l.waiting < 2 ^ l.left;
  put : bits_read l.self.bytes.items ++ bits l.left l.waiting ≡ bits_put l.initial.self;
  capacity : vec_capacity l.self.bytes ≡ vec_capacity l.initial.self.bytes;
  growth : 7 * vec_len l.self.bytes + l.left ≤ 7 * vec_len l.initial.self.bytes + l.initial.self.count;
}

abbrev pub decreases-loop-width : goal.decreases-loop-width
decreases-loop-width l = l.left
