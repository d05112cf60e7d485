use Rattle.std.proofs.Common.{arith}
use Rattle.jls_values.proofs.Lists.{all_weaker}
use Rattle.jls_search.specs.Choices.{IsWhole, prefix_of}
use Rattle.jls_search.specs.Faultless.{IsSought}
use Rattle.jls_search.specs.Search.{lists_of}
use Rattle.jls_carried.proofs.own_splices.search_levels.Goals as goal

pub levels-init : goal.levels-init
levels-init c = c.in_ok-search.ensures.stands

pub go_on-requires-clause-more : goal.go_on-requires-clause-more
go_on-requires-clause-more c =
    let under = c.levels.invariant.within in let not_over = c.is_over.ensures.1 in grind (arith, under, not_over)

pub levels-preserved : goal.levels-preserved
levels-preserved c = c.in_ok-go_on.ensures.stands

pub levels-smaller : goal.levels-smaller
levels-smaller c =
    let further = c.in_ok-go_on.ensures.further in
    let within = c.in_ok-go_on.ensures.stands.within in
    omega (arith, further, within)

pub returns : goal.returns
returns c =
    let ps = c.args.parts.now in
    let searched = c.in_ok-searched.searched in
    all_weaker (λ choices. IsWhole ps choices × IsSought c.levels.search.rules.ceiling (prefix_of ps choices)) (IsWhole ps)
    (lists_of searched.splices.items) (λ choices h. h.0) c.in_ok-searched.ensures.came_to.files
