use Rattle.std.proofs.Common.{◌≡◌, ◌+◌, ◌*◌, ◌<◌, ◌≤◌, true, List, Bool, ◌++◌, take, length}
use Rattle.jls_bits.specs.Bits.{bits_read, is_whole}
use Rattle.jls_interval.proofs.interval_decoder.append_bytes.Given as goal

-- the bits of the bytes so far are in the chunk
abbrev pub invariant-loop-byte : goal.invariant-loop-byte
invariant-loop-byte l = record {
  pushed : l.unstuffer ≡ l.initial.unstuffer ++ take l.byte-index l.bytes;
  whole : 0 < l.byte-index → l.whole ≡ is_whole l.unstuffer;
  bits : (given : List Bool) → is_whole l.unstuffer ≡ true → bits_read l.initial.unstuffer ≡ given ++ l.initial.chunk
      → bits_read l.unstuffer ≡ given ++ l.chunk;
  few : length l.chunk ≤ length l.initial.chunk + 8 * l.byte-index;
}
