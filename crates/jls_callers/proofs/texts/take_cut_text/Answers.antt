use Rattle.std.proofs.Common.{◌++◌}
use Rattle.jls_partial.specs.Merging.{TakesPrefix}
use Rattle.jls_partial.specs.TextPrefix.{text_prefix}
use Rattle.jls_headline.specs.Collected.{Collected, text_cut_short}
use Rattle.jls_callers.proofs.Answered.{err_then}
use Rattle.jls_callers.proofs.texts.take_cut_text.Goals as goal

pub returns-clause-collected : goal.returns-clause-collected
returns-clause-collected c = λ known following copies over more further is collected other's.
    let old = c.args.station.now in
    let new = c.take_text.new.self in
    let other = c.args.other.now in
    let bytes = c.args.prefix.now in
    err_then c.take_text.result (TakesPrefix old new (text_prefix bytes))
    (Collected known new copies (over ++ (more ++ further))) c.take_text.ensures.prefix
    (λ t. text_cut_short old new other copies over more further bytes collected other's
    (c.cut_texts_are_held.ensures other bytes following is) t)
