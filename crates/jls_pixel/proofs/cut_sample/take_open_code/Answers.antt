use Rattle.std.proofs.Common.{◌++◌, sym, ap, ◌∙◌}
use Rattle.jls_bits.specs.CodeState.{bits_fed}
use Rattle.jls_bits.proofs.CodeSteps.{fed_on}
use Rattle.jls_pixel.proofs.CutSamples.{whole_cuts_none, refused_cuts_none}
use Rattle.jls_pixel.proofs.cut_sample.take_open_code.Goals as goal

pub returns-in-Done-clause-none : goal.returns-in-Done-clause-none
returns-in-Done-clause-none c =
    let given = c.args.pending.now in let after = c.read_bit.new.self in let fed = bits_fed c.args.g c.args.qbpp c.loop-bit.state in
    whole_cuts_none c.args.k c.args.g c.args.qbpp given c.in-Done.field-0 after c.in-Done.ensures.0
    (sym (fed_on given fed c.loop-bit.pending after c.in-Some.bit c.loop-bit.invariant.fed c.in-Some.ensures.some)
    ∙ ap (λ z. z ++ after) (sym c.in-Done.ensures.1))

pub returns-in-Refused-clause-none : goal.returns-in-Refused-clause-none
returns-in-Refused-clause-none c =
    let given = c.args.pending.now in let after = c.read_bit.new.self in let fed = bits_fed c.args.g c.args.qbpp c.loop-bit.state in
    refused_cuts_none c.args.k c.args.g c.args.qbpp given fed after c.in-Some.bit
    (fed_on given fed c.loop-bit.pending after c.in-Some.bit c.loop-bit.invariant.fed c.in-Some.ensures.some) c.in-Refused.ensures
