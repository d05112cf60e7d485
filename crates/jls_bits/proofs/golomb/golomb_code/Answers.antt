use Rattle.std.proofs.Common.{◌+◌, ◌-◌, ◌/◌, ◌%◌, ◌^◌, ◌++◌, replicate, false, ap, ◌∙◌, arith}
use Rattle.jls_bits.specs.Bits.{bits}
use Rattle.jls_bits.proofs.Codes.{parts_of_short, parts_of_escape, escape_above_0}
use Rattle.jls_bits.proofs.CodeSteps.{one_shifted}
use Rattle.jls_bits.proofs.golomb.golomb_code.Goals as goal

pub returns-then-quotient-escape-clause-code : goal.returns-then-quotient-escape-clause-code
returns-then-quotient-escape-clause-code c =
    ap (λ z. replicate (c.args.mapped / 2 ^ c.args.k) false ++ bits (c.args.k + 1) (z + c.args.mapped % z))
    (one_shifted c.args.k c.requires.k) ∙ parts_of_short c.args.k c.args.g c.args.qbpp c.args.mapped (omega arith)

-- the two parts of an escape
pub returns-else-quotient-escape-clause-code : goal.returns-else-quotient-escape-clause-code
returns-else-quotient-escape-clause-code c =
    let a = escape_above_0 c.args.k c.args.g c.args.qbpp c.args.mapped c.requires.g.0 (omega arith) in
    ap (λ z. replicate (c.args.g - c.args.qbpp - 1) false ++ bits (c.args.qbpp + 1) (z + (c.args.mapped - 1)))
    (one_shifted c.args.qbpp c.requires.qbpp.1)
    ∙ parts_of_escape c.args.k c.args.g c.args.qbpp c.args.mapped (omega arith) (omega (arith, a, c.requires.mapped))
