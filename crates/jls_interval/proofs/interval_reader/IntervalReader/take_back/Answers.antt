use Rattle.std.proofs.Common.{sym, ap, ◌∙◌, subst}
use Rattle.jls_values.specs.Params.{limit, qbpp}
use Rattle.jls_bits.specs.CodeState.{bits_fed, IsOpen}
use Rattle.jls_bits.specs.declared.code_state.CodeState.{CodeState}
use Rattle.jls_interval.proofs.GivenBack.{sample_open, sample_back}
use Rattle.jls_interval.proofs.interval_reader.IntervalReader.take_back.Goals as goal

-- the code in hand is an open one of the next cell
pub fed-requires-clause-open : goal.fed-requires-clause-open
fed-requires-clause-open c =
    let h = c.requires in let coder = c.args.self.now.reader.coder in let code : CodeState = c.in-Sample.code in
    let lengths = coder.lengths_are in
    let o = sample_open h.0 h.1 c.args.self.now h.2 c.in-Working.is code c.in-Sample.is in
    let own = subst (λ q. IsOpen o.0 (limit q) (qbpp q) code) (sym h.2.parameters) o.1 in (
      o.0,
      subst (λ z. IsOpen o.0 z coder.lengths.qbpp code) (sym lengths.limit_is)
          (subst (λ z. IsOpen o.0 (limit coder.cells.parameters) z code) (sym lengths.qbpp_is) own),
    )

-- the bits given back are those of the sample in hand
pub returns-in-Some-clause-bits : goal.returns-in-Some-clause-bits
returns-in-Some-clause-bits c = λ p given h.
    let code : CodeState = c.in-Sample.code in let coder = c.args.self.now.reader.coder in let lengths = coder.lengths_are in
    let fed = c.in-Some.ensures.some ∙ ap (λ z. bits_fed z coder.lengths.qbpp code) lengths.limit_is
    ∙ ap (λ z. bits_fed (limit coder.cells.parameters) z code) lengths.qbpp_is
    ∙ ap (λ q. bits_fed (limit q) (qbpp q) code) h.parameters in
    sample_back p given c.args.self.now h c.in-Working.is code c.in-Sample.is c.in-Some.chunk fed _
