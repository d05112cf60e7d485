use Rattle.std.proofs.Common.{arith}
use Rattle.jls_bits.proofs.CodeSteps.{zero_more, zero_too_many, zero_without_escape, one_of_escape, one_of_short, one_alone, escape_shifted}
use Rattle.jls_bits.proofs.CodeSteps.{one_shifted}
use Rattle.jls_bits.proofs.code_state.push_to_zeros.Goals as goal
use Rattle.jls_bits.proofs.code_state.push_to_zeros.Goals.{else-zeros-escape-3-via-then-zeros-escape-3+else-qbpp-escape}
use Rattle.jls_bits.proofs.code_state.push_to_zeros.Goals.{else-zeros-escape-3-via-else-zeros-escape-3}

pub returns-then-zeros-escape : goal.returns-then-zeros-escape
returns-then-zeros-escape c =
    one_of_escape c.args.k c.args.g c.args.qbpp c.requires.g.0 c.args.zeros c.args.bit c.if-bit.true (omega arith) (omega arith)
    (c.requires.open.1 (omega arith))

pub returns-then-k-eq0 : goal.returns-then-k-eq0
returns-then-k-eq0 c =
    one_alone c.args.k c.args.g c.args.qbpp c.requires.g.0 c.args.zeros c.args.bit c.if-bit.true (omega (arith, c.requires.open.0))
    (omega arith)

pub returns-else-k-eq0 : goal.returns-else-k-eq0
returns-else-k-eq0 c =
    one_of_short c.args.k c.args.g c.args.qbpp c.requires.g.0 c.args.zeros c.args.bit c.if-bit.true (omega (arith, c.requires.open.0))
    (omega arith)

pub returns-then-zeros-escape-2 : goal.returns-then-zeros-escape-2
returns-then-zeros-escape-2 c =
    zero_too_many c.args.k c.args.g c.args.qbpp c.requires.g.0 c.args.zeros c.args.bit c.if-bit.false (omega arith)

pub returns-then-qbpp-escape : goal.returns-then-qbpp-escape
returns-then-qbpp-escape c =
    let e = escape_shifted c.args.k c.args.g c.args.qbpp c.requires.k c.requires.g.1 in let o = one_shifted c.args.qbpp c.requires.qbpp.1 in
    zero_without_escape c.args.k c.args.g c.args.qbpp c.requires.g.0 c.args.zeros c.args.bit c.if-bit.false (omega arith)
    (omega (arith, e, o))

-- one zero more is still no more than an escape has
pub returns-else-zeros-escape-3 : goal.returns-else-zeros-escape-3
returns-else-zeros-escape-3 c =
    let e = escape_shifted c.args.k c.args.g c.args.qbpp c.requires.k c.requires.g.1 in let o = one_shifted c.args.qbpp c.requires.qbpp.1 in
    zero_more c.args.k c.args.g c.args.qbpp c.requires.g.0 c.args.zeros c.args.bit c.if-bit.false (omega (arith, c.requires.open.0))
    (λ l. elim c.else-zeros-escape-3.branch [
      | else-zeros-escape-3-via-then-zeros-escape-3+else-qbpp-escape w ↦ omega (arith, e, o)
      | else-zeros-escape-3-via-else-zeros-escape-3 w ↦ absurd (w.if-zeros-escape-3.false l)
    ])
