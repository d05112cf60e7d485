use Rattle.std.proofs.Common.{subst, sym}
use Rattle.std.specs.Prelude.{IfSome}
use Rattle.jls_values.proofs.Lists.{all_more}
use Rattle.jls_search.specs.Search.{AreEachKept, IsKeptReader}
use Rattle.jls_search.proofs.Lists.{has_copy}
use Rattle.jls_search.proofs.GroupSearches.{goes_first, goes_more}
use Rattle.jls_search.proofs.group_search.search_group.Goals as goal

pub loop-copy-init : goal.loop-copy-init
loop-copy-init c = record {
  splices = c.requires.splices;
  kept = c.requires.kept;
  goes = goes_first c.args.extent.most_tries c.args.parts.now c.args.group c.args.gone.searched c.requires.untried c.requires.few;
}

pub search_setting-requires-clause-setting : goal.search_setting-requires-clause-setting
search_setting-requires-clause-setting c =
    (c.requires.group, has_copy c.args.extent.copies c.loop-copy.copy c.args.parts.now c.loop-copy-test.true c.requires.ways)

pub loop-copy-preserved : goal.loop-copy-preserved
loop-copy-preserved c = record {
  splices = c.in_ok-more.ensures.splices;
  kept =
      let ps = c.args.parts.now in
      let before = c.take_first-begin.new.readers.items in
      let all = all_more (λ reader. IfSome reader (IsKeptReader ps)) before c.in_ok-more.more.kept
      (c.take_first-begin.ensures ps c.loop-copy.invariant.kept).1
      c.in_ok-more.ensures.kept in
      subst (AreEachKept ps) (sym c.in_ok-push.ensures.items) all;
  goes =
      goes_more c.args.extent.most_tries c.loop-copy.copy c.args.parts.now c.args.group c.args.gone.searched c.loop-copy.searched _
      c.loop-copy.invariant.goes c.in_ok-more.ensures.goes;
}
