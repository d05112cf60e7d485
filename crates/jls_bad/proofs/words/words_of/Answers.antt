use Rattle.std.proofs.Common.{◌==◌, ◌∙◌, not, length, rules, tests}
use Rattle.std.specs.List.{before_first}
use Rattle.std.proofs.lemmas.Iterator.Consumers.{map_from_collect}
use Rattle.std.proofs.lemmas.Iterator.Consumers.{YieldsList-from_filter, YieldsList-at}
use Rattle.std.proofs.lemmas.Iterator.Splits.{YieldsList-from_slice_split}
use Rattle.jls_bad.specs.ListText.{is_blank}
use Rattle.jls_bad.proofs.words.words_of.Goals as goal

pub returns : goal.returns
returns c = map_from_collect _ c.collect.ensures.ran (YieldsList-from_filter _ (λ word. not (length word == 0))
    (YieldsList-at c.filter.ensures.source (YieldsList-from_slice_split _ is_blank (before_first (λ byte. byte == 35) c.args.line.now) (c.split.ensures.rest ∙ c.before_comment.ensures) c.split.ensures.done c.split.ensures.closure (λ x b q k. search (rules, tests))))
    c.filter.ensures.closure (λ x b q k. search (rules, tests)))
