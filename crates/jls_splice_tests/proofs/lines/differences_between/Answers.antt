use Rattle.std.proofs.Common.{ap, arith}
use Rattle.std.proofs.Common.{length}
use Rattle.jls_splice_tests.proofs.lines.differences_between.Goals as goal

pub differences_of-requires : goal.differences_of-requires
differences_of-requires c =
    let of_first = ap length (c.in_ok-parts.ensures.make 0 (omega arith)) in
    omega (arith, of_first)
