use Rattle.std.proofs.Common.{◌∙◌}
use Rattle.jls_bits.specs.CodeState.{bits_fed}
use Rattle.jls_bits.proofs.CodeSteps.{begins, none_whole, fed_on, fed_all}
use Rattle.jls_pixel.proofs.pending_bits.read_code.Goals as goal

pub returns-in-Refused-clause-none : goal.returns-in-Refused-clause-none
returns-in-Refused-clause-none c = λ m rest has e.
    c.in-Refused.ensures m c.read_bit.new.self rest has
    (fed_on c.args.pending.now (bits_fed c.args.g c.args.qbpp c.loop-bit.state) c.loop-bit.pending c.read_bit.new.self
    c.in-Some.bit c.loop-bit.invariant.fed c.in-Some.ensures.some ∙ e)

pub returns-clause-none : goal.returns-clause-none
returns-clause-none c = λ m rest has e.
    let t = bits_fed c.args.g c.args.qbpp c.loop-bit.state in
    none_whole c.args.k c.args.g c.args.qbpp c.requires.g.0 t
    (begins c.args.k c.args.g c.args.qbpp c.requires.g.0 c.loop-bit.state c.loop-bit.invariant.open) m rest has
    (fed_all c.args.pending.now t c.loop-bit.pending c.loop-bit.invariant.fed c.in_default.ensures.none.0 ∙ e)
