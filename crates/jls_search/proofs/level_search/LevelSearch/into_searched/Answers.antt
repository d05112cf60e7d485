use Rattle.std.proofs.Common.{◌≡◌, length, subst, arith, sym, ◌∙◌}
use Rattle.std.specs.List.{AllByRecursion}
use Rattle.jls_search.specs.Faultless.{IsSought}
use Rattle.jls_search.specs.LevelSearches.{IsFoundOrNot}
use Rattle.jls_search.specs.Search.{lists_of}
use Rattle.jls_search.proofs.ReaderLevels.{each_splice}
use Rattle.jls_search.proofs.level_search.LevelSearch.into_searched.Goals as goal

pub returns-clause-came_to : goal.returns-clause-came_to
returns-clause-came_to c =
    let ps = c.args.parts.now in
    let s = c.args.self in
    let stands = c.requires.stands in
    let within = stands.within in
    let e : s.count ≡ length ps = omega (arith, within, c.requires.over) in
    record {
      files = c.in_ok-found.ensures.files;
      all = λ enough.
          each_splice s.rules.ceiling ps s.living.items (lists_of c.in_ok-found.found.splices.items)
          (λ path is l. stands.all enough path is (l ∙ sym e))
          (subst (AllByRecursion (IsFoundOrNot (IsSought s.rules.ceiling) ps (lists_of c.in_ok-found.found.splices.items)))
          c.deref.ensures.value c.in_ok-found.ensures.judged);
    }
