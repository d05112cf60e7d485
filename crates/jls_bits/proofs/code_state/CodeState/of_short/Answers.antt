use Rattle.std.proofs.Common.{ℕ, inl, inr, arith}
use Rattle.jls_bits.proofs.ChunkSteps.{zeros_left, one_left}
use Rattle.jls_bits.proofs.code_state.CodeState.of_short.Goals as goal
use Rattle.jls_bits.proofs.code_state.CodeState.of_short.Goals.{else-quotient-escape-via-then-quotient-escape+else-count-k}
use Rattle.jls_bits.proofs.code_state.CodeState.of_short.Goals.{else-quotient-escape-via-else-quotient-escape}

pub returns-else-len-escape-clause-none : goal.returns-else-len-escape-clause-none
returns-else-len-escape-clause-none c =
    zeros_left c.args.k c.args.g c.args.qbpp _ c.args.chunk.now c.in-None.ensures.none
    (let l = c.len.ensures in let f = c.if-len-escape.false in omega arith)

-- too many zeros for a short code
pub returns-else-quotient-escape-clause-none : goal.returns-else-quotient-escape-clause-none
returns-else-quotient-escape-clause-none c =
    let z : ℕ = c.in-Some.quotient in let n : ℕ = c.in-Some.count in let v : ℕ = c.in-Some.value in
    one_left c.args.k c.args.g c.args.qbpp z n v c.args.chunk.now c.in-Some.ensures.some
    (elim c.else-quotient-escape.branch [
      | else-quotient-escape-via-then-quotient-escape+else-count-k w ↦ inr (omega arith)
      | else-quotient-escape-via-else-quotient-escape w ↦
          inl (omega arith)
    ])
