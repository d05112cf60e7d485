use Rattle.jls_io.proofs.Growing.{grew_as}
use Rattle.jls_headline.specs.Collected.{copy_input, text_input}
use Rattle.jls_callers.proofs.Answered.{ok_then}
use Rattle.jls_callers.proofs.reading.read_any.Goals as goal

pub returns-clause-copy : goal.returns-clause-copy
returns-clause-copy g c = λ known.
    ok_then c.read_input.result _ _ c.read_input.ensures.given
    (λ given t copied. grew_as _ _ _ _ (λ reads h. copy_input c.args.source given reads h copied) t)

pub returns-clause-text : goal.returns-clause-text
returns-clause-text g c = λ known p copies over collected.
    ok_then c.read_input.result _ _ c.read_input.ensures.given
    (λ given. grew_as _ _ _ _ (λ reads h is. text_input p copies over c.args.source given reads collected is h))
