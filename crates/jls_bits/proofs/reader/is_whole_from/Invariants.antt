use Rattle.std.proofs.Common.{◌≡◌, drop}
use Rattle.jls_bits.specs.Bits.{is_whole_after}
use Rattle.jls_bits.proofs.reader.is_whole_from.Given as goal

-- no byte so far ends the data, so the answer is that of the rest
abbrev pub invariant-loop-next : goal.invariant-loop-next
invariant-loop-next l = is_whole_after l.before (drop l.next-index l.bytes) ≡ is_whole_after l.fn.before l.bytes
