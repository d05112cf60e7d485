use Rattle.std.proofs.Common.{◌∙◌}
use Rattle.jls_bits.specs.CodeState.{bits_fed}
use Rattle.jls_bits.proofs.CodeSteps.{begins, none_whole, fed_on, fed_all}
use Rattle.jls_bits.proofs.golomb.read_code.Goals as goal

pub returns-in-Refused-clause-none : goal.returns-in-Refused-clause-none
returns-in-Refused-clause-none c = λ m rest has e.
    c.in-Refused.ensures m c.read_bit.new.self.left rest has
    (fed_on c.args.reader.now.left (bits_fed c.args.g c.args.qbpp c.loop-bit.state) c.loop-bit.reader.left c.read_bit.new.self.left
    c.in-Some.bit c.loop-bit.invariant.fed c.in-Some.ensures.some ∙ e)

-- the bits end before the code does
pub returns-clause-none : goal.returns-clause-none
returns-clause-none c = λ m rest has e.
    let t = bits_fed c.args.g c.args.qbpp c.loop-bit.state in
    none_whole c.args.k c.args.g c.args.qbpp c.requires.g.0 t
    (begins c.args.k c.args.g c.args.qbpp c.requires.g.0 c.loop-bit.state c.loop-bit.invariant.open) m rest has
    (fed_all c.args.reader.now.left t c.loop-bit.reader.left c.loop-bit.invariant.fed c.in_default.ensures.none.0 ∙ e)
