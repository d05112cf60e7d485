use Rattle.std.proofs.Common.{ap, ◌∙◌, arith, length, length-append}
use Rattle.jls_bits.proofs.NumberBits.{length-bits}
use Rattle.jls_format_tests.proofs.bits.codes.chunk_of.Goals as goal
use Rattle.jls_format_tests.proofs.bits.codes.chunk_of.Goals.{then-len-lt50, else-len-lt50}

pub loop-digit-preserved : goal.loop-digit-preserved
loop-digit-preserved c =
    elim c.if-len-lt50.branch [
      | then-len-lt50 w ↦ (let e = simp (length-append, length-bits) at (ap length (w.chunk-is ∙ w.append.ensures)) in omega (arith, e))
      | else-len-lt50 w ↦ (let e = ap length w.chunk-is in omega (arith, e))
    ]
