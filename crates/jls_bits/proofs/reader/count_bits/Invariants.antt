use Rattle.std.proofs.Common.{◌≡◌, ◌+◌, ◌*◌, ◌≤◌, length, drop}
use Rattle.jls_bits.specs.Bits.{bits_read_after}
use Rattle.jls_bits.proofs.reader.count_bits.Given as goal

-- the bits counted and those of the bytes left are all of them
abbrev pub invariant-loop-next : goal.invariant-loop-next
invariant-loop-next l = record {
  counted : l.count + length (bits_read_after l.before (drop l.next-index l.bytes)) ≡ length (bits_read_after l.fn.before l.bytes);
  at_most : l.count ≤ 8 * l.next-index;
}
