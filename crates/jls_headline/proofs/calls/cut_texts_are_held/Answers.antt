use Rattle.jls_headline.proofs.CutTexts.{cut_texts_are_held}
use Rattle.jls_headline.proofs.calls.cut_texts_are_held.Goals as goal

pub returns : goal.returns
returns c = cut_texts_are_held
