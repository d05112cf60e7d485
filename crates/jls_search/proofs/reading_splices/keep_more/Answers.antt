use Rattle.std.proofs.Common.{List, ℕ, Some, sym, ap, ◌∙◌, subst}
use Rattle.std.specs.List.{AllByRecursion}
use Rattle.jls_values.proofs.Lists.{all_more}
use Rattle.jls_search.specs.Choices.{prefix_of}
use Rattle.jls_search.specs.Search.{IsKeptReader}
use Rattle.jls_search.proofs.reading_splices.keep_more.Goals as goal

pub returns : goal.returns
returns c = λ parts all fed.
    let one = c.in_ok-one.one in
    let is = c.in_ok-one.ensures in
    subst (AllByRecursion (IsKeptReader parts)) (sym c.in_ok-push.ensures.items)
    (all_more (IsKeptReader parts) c.make_room.new.kept.items one (c.make_room.ensures parts all)
    (is.0 ∙ fed ∙ ap (λ (path : List ℕ). Some (prefix_of parts path)) (sym is.1)))
