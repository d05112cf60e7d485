use Rattle.std.proofs.Common.{refl, arith, None, length, rules, ◌∙◌}
use Rattle.jls_search.specs.Search.{lists_of}
use Rattle.jls_search.specs.declared.setting.Goal.TheVariants.{Group}
use Rattle.jls_search.proofs.FoundMore.{count_of}
use Rattle.jls_search.proofs.Sets.{set_first}
use Rattle.jls_search.proofs.Steps.{begun}
use Rattle.jls_search.proofs.group_search.begin.Goals as goal

pub follow-requires-clause-path : goal.follow-requires-clause-path
follow-requires-clause-path c = set_first c.args.parts.now (Group c.args.setting) _ (search rules)

pub returns-clause-stands : goal.returns-clause-stands
returns-clause-stands c =
    let found = lists_of c.args.searched.splices.items in
    record {
      goal = c.requires.setting;
      goes = begun None c.args.parts.now (Group c.args.setting) c.new-path.result.items c.follow.new.path.items found
          c.new-path.ensures.items
          c.in_ok-follow.ensures.path c.in_ok-follow.ensures.stop c.in_ok-follow.ensures.kept;
      files = c.requires.splices;
      few =
          (let n = c.len.ensures ∙ c.args.searched.splices.ok.0 in let most = c.most_after-most.ensures in let few = c.requires.few in
          let a = count_of c.args.searched.splices.items in omega (arith, n, most, few, a));
      kept = (c.requires.kept, tt);
    }
