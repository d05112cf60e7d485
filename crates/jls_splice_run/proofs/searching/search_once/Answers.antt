use Rattle.std.proofs.Common.{sym, ◌∙◌, subst, ap, arith}
use Rattle.jls_search.specs.Faultless.{IsSought}
use Rattle.jls_search.specs.Search.{CameTo, lists_of}
use Rattle.jls_splice_run.proofs.Told.{tells_none, tells_on}
use Rattle.jls_splice_run.proofs.searching.search_once.Goals as goal

pub returns-in_err-search-clause-told : goal.returns-in_err-search-clause-told
returns-in_err-search-clause-told g c = tells_none c.args.tells (g.E.Device.history c.args.faults.now)

pub levels-init : goal.levels-init
levels-init g c =
    record {
      stands = c.in_ok-search.ensures.stands;
      rules = c.in_ok-search.ensures.rules;
      told = tells_none c.args.tells (g.E.Device.history c.args.faults.now);
    }

pub returns-in_err-last-clause-told : goal.returns-in_err-last-clause-told
returns-in_err-last-clause-told g c = tells_on c.args.tells c.levels.invariant.told c.in_err-last.ensures

pub returns-in_err-go_on-clause-told : goal.returns-in_err-go_on-clause-told
returns-in_err-go_on-clause-told g c = tells_on c.args.tells c.levels.invariant.told c.in_ok-last.ensures

pub go_on-requires-clause-more : goal.go_on-requires-clause-more
go_on-requires-clause-more g c =
    let under = c.levels.invariant.stands.within in let not_over = c.is_over.ensures.1 in grind (arith, under, not_over)

pub levels-preserved : goal.levels-preserved
levels-preserved g c =
    let e = c.in_ok-go_on.ensures in
    record {
      stands = e.stands;
      rules = e.rules ∙ c.levels.invariant.rules;
      told = tells_on c.args.tells c.levels.invariant.told c.in_ok-last.ensures;
    }

pub levels-smaller : goal.levels-smaller
levels-smaller g c =
    let further = c.in_ok-go_on.ensures.further in
    let within = c.in_ok-go_on.ensures.stands.within in
    omega (arith, further, within)

pub returns-in_err-tell-clause-told : goal.returns-in_err-tell-clause-told
returns-in_err-tell-clause-told g c = tells_on c.args.tells c.levels.invariant.told c.in_err-tell.ensures

pub returns-clause-came_to : goal.returns-clause-came_to
returns-clause-came_to g c =
    let e = c.in_ok-searched.ensures in
    let s = c.in_ok-searched.searched in
    subst (λ ceiling. CameTo (IsSought ceiling) c.args.parts.now (lists_of s.splices.items) s.is_used_up) (sym e.ceiling) e.came_to

pub returns-clause-ceiling : goal.returns-clause-ceiling
returns-clause-ceiling g c = c.in_ok-searched.ensures.ceiling ∙ ap (λ rules. rules.ceiling) c.levels.invariant.rules

pub returns-clause-told : goal.returns-clause-told
returns-clause-told g c = tells_on c.args.tells c.levels.invariant.told c.in_ok-tell.ensures
