use Rattle.std.proofs.Common.{sym, subst, Option}
use Rattle.std.specs.Prelude.{IfSome}
use Rattle.jls_search.specs.GroupTries.{GoesThrough}
use Rattle.jls_search.specs.OfGroups.{AreOfGroups}
use Rattle.jls_search.specs.Search.{IsKeptReader, lists_of}
use Rattle.jls_search.specs.declared.kept.KeptReader.{KeptReader}
use Rattle.jls_search.specs.declared.whole_search.Searched.{Searched}
use Rattle.jls_search.proofs.GroupRuns.{of_groups, some_way_of_copy, went_through}
use Rattle.jls_search.proofs.group_search.search_setting.Goals as goal

pub run-requires-clause-some_way : goal.run-requires-clause-some_way
run-requires-clause-some_way c = some_way_of_copy c.args.setting.copy c.args.parts.now c.requires.setting.1

pub returns-clause-splices : goal.returns-clause-splices
returns-clause-splices c =
    let before = c.args.gone.searched in
    subst (λ (s : Searched). AreOfGroups c.args.parts.now (lists_of s.splices.items)) (sym c.went.ensures.searched)
    (of_groups c.args.most_tries c.args.parts.now c.args.setting before c.in_ok-search.search c.run.new.self c.in_ok-search.ensures.untried
    c.in_ok-run.ensures.stands c.in_ok-run.ensures.alike c.in_ok-run.ensures.stops c.in_ok-run.ensures.went c.requires.few.0)

pub returns-clause-goes : goal.returns-clause-goes
returns-clause-goes c =
    let before = c.args.gone.searched in
    subst (GoesThrough c.args.most_tries c.args.parts.now c.args.setting before) (sym c.went.ensures.searched)
    (went_through c.args.most_tries c.args.parts.now c.args.setting before c.in_ok-search.search c.run.new.self
    c.in_ok-search.ensures.untried c.in_ok-run.ensures.stands c.in_ok-run.ensures.alike c.in_ok-run.ensures.stops
    c.in_ok-run.ensures.went c.requires.few.0)

pub returns-clause-kept : goal.returns-clause-kept
returns-clause-kept c =
    subst (λ (k : Option KeptReader). IfSome k (IsKeptReader c.args.parts.now)) (sym c.went.ensures.kept) c.in_ok-run.ensures.stands.kept.0
