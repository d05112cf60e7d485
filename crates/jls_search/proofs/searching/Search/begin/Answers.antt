use Rattle.std.proofs.Common.{◌≡◌, ℕ, ◌≤◌, List, [], length, Vec, Global, refl, sym, ap, subst, arith}
use Rattle.jls_search.specs.Faultless.{IsSought}
use Rattle.jls_search.specs.Search.{MakeFiles, lists_of}
use Rattle.jls_search.specs.declared.setting.Goal.TheVariants.{Whole}
use Rattle.jls_search.proofs.Steps.{begun}
use Rattle.jls_search.proofs.searching.Search.begin.Goals as goal

pub returns-clause-stands : goal.returns-clause-stands
returns-clause-stands c =
    let ps = c.args.parts.now in
    let vs : List (Vec ℕ Global) = c.new.result.items in
    let none : vs ≡ [] = c.new.ensures.items in
    let few : length (lists_of vs) ≤ 64 = (let e = ap (λ (ws : List (Vec ℕ Global)). length (lists_of ws)) none in omega (arith, e)) in
    let files : MakeFiles (IsSought c.args.ceiling) ps (lists_of vs) =
    subst (λ (ws : List (Vec ℕ Global)). MakeFiles (IsSought c.args.ceiling) ps (lists_of ws)) (sym none) tt in
    record {
      is_at = record {
        goal = tt;
        goes = begun c.args.ceiling ps Whole c.new-path.result.items c.follow.new.path.items (lists_of vs) c.new-path.ensures.items
            c.in_ok-follow.ensures.path c.in_ok-follow.ensures.stop c.in_ok-follow.ensures.kept;
        files = files;
        few = few;
        kept = (tt, tt);
      };
      goal_is = refl;
      most_is = refl;
    }
