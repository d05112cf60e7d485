use Rattle.jls_headline.specs.Collected.{same_again}
use Rattle.jls_callers.proofs.texts.take_text_of_another_shape.Goals as goal

pub returns-clause-collected : goal.returns-clause-collected
returns-clause-collected c = λ known copies over g e. same_again c.args.station.now c.take_text.new.self copies over g (c.take_text.ensures.unchanged e)
