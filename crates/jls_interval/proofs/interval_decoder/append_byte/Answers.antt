use Rattle.std.proofs.Common.{◌++◌, length, sym, ap, ◌∙◌, arith, append_assoc, length-append}
use Rattle.jls_bits.specs.Bits.{bits}
use Rattle.jls_bits.proofs.NumberBits.{length-bits}
use Rattle.jls_interval.proofs.interval_decoder.append_byte.Goals as goal

pub returns-in-Some-clause-bits : goal.returns-in-Some-clause-bits
returns-in-Some-clause-bits c = λ given whole e.
    let own = bits c.in-Some.count c.in-Some.value in
    c.in-Some.ensures.bits ∙ ap (λ z. z ++ own) e ∙ append_assoc given c.args.chunk.now own ∙ ap (λ z. given ++ z) (sym c.append.ensures)

pub returns-in-Some-clause-few : goal.returns-in-Some-clause-few
returns-in-Some-clause-few c =
    let a = ap length c.append.ensures in let b = length-append c.args.chunk.now (bits c.in-Some.count c.in-Some.value) in
    let l = length-bits c.in-Some.count c.in-Some.value in let n = c.in-Some.ensures.count.1 in omega arith
