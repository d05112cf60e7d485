use Rattle.std.proofs.Common.{◌≡◌, ℕ, ◌+◌, List, Vec, Global, length, true, take, sym, ap, subst, arith, rules}
use Rattle.std.specs.List.{AllByRecursion}
use Rattle.std.proofs.lemmas.List.{take_all}
use Rattle.std.proofs.lemmas.Option.{IfSome_then}
use Rattle.jls_diff.specs.Parts.{Part}
use Rattle.jls_search.specs.Faultless.{IsSought}
use Rattle.jls_search.specs.Levels.{AreJudged, IsLevel, IsNextPath}
use Rattle.jls_search.specs.Search.{lists_of}
use Rattle.jls_search.proofs.NextLevels.{item_of_level, judged_one_more, next_level_is, of_lists}
use Rattle.jls_search.proofs.levels.next_level.Goals as goal

pub take_ways-requires : goal.take_ways-requires
take_ways-requires c =
    let ps : List Part = c.args.parts.now in
    let is = item_of_level c.args.level.now.living.items c.deref-path-items.result.now c.paths.path-index c.path-item.result
    c.deref.result.now
    c.deref-path-items.ensures.value c.paths-test.true c.path-item.is c.deref.ensures.value ps c.args.level.now.count
    c.requires.level.each in
    let count = is.2 in
    let less = c.if-level-len.false in
    record {
      some_way = c.requires.some_way;
      short = c.requires.short;
      kept = c.requires.kept;
      path = is.0;
      more = omega (arith, count, less);
      each = subst (λ n. AllByRecursion (IsNextPath ps (n + 1)) (lists_of c.paths.begun.living.items)) (sym is.2) c.paths.invariant.each;
    }

pub paths-preserved : goal.paths-preserved
paths-preserved c =
    let Sought : List ℕ → Type 0 = IsSought c.args.judge.now.ceiling in
    let ps : List Part = c.args.parts.now in
    let count : ℕ = c.args.level.now.count in
    let vs : List (Vec ℕ Global) = c.args.level.now.living.items in
    let path : List ℕ = c.deref.result.now in
    let old : List (List ℕ) = lists_of c.paths.begun.living.items in
    let new : List (List ℕ) = lists_of c.take_ways.new.begun.living.items in
    let is = item_of_level vs c.deref-path-items.result.now c.paths.path-index c.path-item.result path c.deref-path-items.ensures.value
    c.paths-test.true c.path-item.is c.deref.ensures.value ps count c.requires.level.each in
    let all : c.in_ok-all.all ≡ true = search rules in
    let so_far = c.paths.invariant in
    let went = c.in_ok-all.ensures in
    record {
      left = omega (arith, so_far.left, went.left);
      spent = omega (arith, so_far.spent, went.spent);
      each = subst (λ n. AllByRecursion (IsNextPath ps (n + 1)) new) is.2 c.in_ok-all.ensures.each;
      judged = judged_one_more vs c.deref-path-items.result.now c.paths.path-index c.path-item.result path c.deref-path-items.ensures.value
          c.paths-test.true c.path-item.is c.deref.ensures.value Sought ps (count + 1) old new c.in_ok-all.ensures.still
          c.paths.invariant.judged
          (subst (λ n. AreJudged Sought ps (n + 1) new path) is.2 (c.in_ok-all.ensures.judged all));
    }

pub returns-clause-level : goal.returns-clause-level
returns-clause-level c =
    let Sought : List ℕ → Type 0 = IsSought c.args.judge.now.ceiling in
    let ps : List Part = c.args.parts.now in
    let count : ℕ = c.args.level.now.count in
    let vs : List (Vec ℕ Global) = c.args.level.now.living.items in
    let living : List (List ℕ) = lists_of c.paths.begun.living.items in
    let are = ap length c.deref-path-items.ensures.value in
    let end = c.paths-test.false in
    let all : take c.paths.path-index vs ≡ vs = take_all c.paths.path-index vs (omega (arith, are, end)) in
    let judged : AllByRecursion (AreJudged Sought ps (count + 1) living) (lists_of vs) =
    of_lists (AreJudged Sought ps (count + 1) living) vs
    (subst (λ (ws : List (Vec ℕ Global)). AllByRecursion (λ (w : Vec ℕ Global). AreJudged Sought ps (count + 1) living w.items) ws) all
    c.paths.invariant.judged) in
    IfSome_then c.level_of.result c.level_of.ensures.some (λ next is.
    subst (IsLevel Sought ps next.count) (sym is.0)
    (next_level_is Sought ps count (lists_of vs) next.count living c.requires.level judged c.paths.invariant.each is.1 is.2))

pub returns-clause-spent : goal.returns-clause-spent
returns-clause-spent c =
    let so_far = c.paths.invariant in
    IfSome_then c.level_of.result c.level_of.ensures.some (λ next is. let e = ap length is.0 in omega (arith, e, so_far.spent))
