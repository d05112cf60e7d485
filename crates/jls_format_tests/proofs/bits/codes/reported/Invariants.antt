use Rattle.std.proofs.Common.{◌≡◌}
use Rattle.jls_bits.specs.CodeState.{BeginsCode}
use Rattle.jls_format_tests.proofs.bits.codes.reported.Given as goal

abbrev pub invariant-loop-index : goal.invariant-loop-index
invariant-loop-index l = record {
  begins : BeginsCode l.reader.k l.reader.g l.reader.qbpp l.reader.pushed;
  qbpp : l.reader.qbpp ≡ l.fn.code.qbpp;
}
