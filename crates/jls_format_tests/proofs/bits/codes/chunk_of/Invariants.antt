use Rattle.std.proofs.Common.{◌≤◌, length}
use Rattle.jls_format_tests.proofs.bits.codes.chunk_of.Given as goal

abbrev pub invariant-loop-digit : goal.invariant-loop-digit
invariant-loop-digit l = length l.chunk ≤ 50
