use Rattle.std.proofs.Common.{◌≡◌, ◌+◌, ◌-◌, ◌^◌, ℕ, List, Vec, Global, min, false, rules, arith, sym, subst, take}
use Rattle.std.proofs.lemmas.List.{take_all}
use Rattle.jls_diff.specs.Groups.{IsGroup}
use Rattle.jls_diff.specs.declared.group.Group.{Group}
use Rattle.jls_search.specs.Search.{lists_of}
use Rattle.jls_search.specs.GroupTries.{AreGroupsSearched}
use Rattle.jls_search.specs.OfGroups.{AreOfGroups}
use Rattle.jls_search.proofs.Lists.{all_at}
use Rattle.jls_search.proofs.GroupSearches.{none_searched, one_more_group}
use Rattle.jls_search.proofs.group_search.search_in_turn.Goals as goal

pub search_group-requires-clause-group : goal.search_group-requires-clause-group
search_group-requires-clause-group c =
    all_at (IsGroup c.args.parts.now) c.args.groups.now _ c.loop-group.group-index c.loop-group-test.true c.requires.groups

pub loop-group-init : goal.loop-group-init
loop-group-init c =
    let ps = c.args.parts.now in
    let most_tries = c.args.extent.most_tries in
    let copies = c.args.extent.copies in
    record {
      kept = c.in_ok-kept.ensures ps;
      splices = subst (λ (vs : List (Vec ℕ Global)). AreOfGroups ps (lists_of vs)) (sym c.new.ensures.items) (tt, tt);
      searched =
          subst (λ (vs : List (Vec ℕ Global)). AreGroupsSearched most_tries copies ps (take 0 c.args.groups.now) 0 (lists_of vs) false)
          (sym c.new.ensures.items) (none_searched most_tries copies ps c.args.groups.now);
    }

pub loop-group-preserved : goal.loop-group-preserved
loop-group-preserved c =
    let was = c.loop-group.searched in
    let sum : c.saturating_add.result ≡ min (was.tries + c.in_ok-more.more.searched.tries) (2 ^ 32 - 1) = search rules in
    record {
      splices = c.in_ok-more.ensures.splices;
      kept = c.in_ok-more.ensures.kept;
      searched =
          one_more_group c.args.extent.most_tries c.args.extent.copies c.args.parts.now c.args.groups.now c.loop-group.group-index _
          was.tries c.saturating_add.result (record
          { ceiling = was.ceiling; splices = was.splices; reader = was.reader; tries = 0; is_used_up = was.is_used_up })
          c.in_ok-more.more.searched c.loop-group-test.true c.loop-group.invariant.searched c.in_ok-more.ensures.goes sum;
    }

pub returns-clause-searched : goal.returns-clause-searched
returns-clause-searched c =
    let s = c.loop-group.searched in
    let end = c.loop-group-test.false in
    subst (λ (gs : List Group). AreGroupsSearched c.args.extent.most_tries c.args.extent.copies c.args.parts.now gs s.tries
    (lists_of s.splices.items) s.is_used_up) (take_all c.loop-group.group-index c.args.groups.now (omega (arith, end)))
    c.loop-group.invariant.searched
