use Rattle.std.proofs.Common.{ℕ, ◌+◌, List, sym, subst, arith}
use Rattle.std.specs.List.{AllByRecursion}
use Rattle.std.proofs.lemmas.List.{take_all}
use Rattle.jls_diff.specs.Parts.{Part}
use Rattle.jls_search.specs.Faultless.{IsSought}
use Rattle.jls_search.specs.Levels.{AreJudged}
use Rattle.jls_search.specs.LevelSearches.{AreGoneOn, IsLiving, IsReadTo, paths_of}
use Rattle.jls_search.specs.declared.next_level.LivingPath.{LivingPath}
use Rattle.jls_search.proofs.Lists.{all_at}
use Rattle.jls_search.proofs.ReaderLevels.{gone_on_more}
use Rattle.jls_search.proofs.next_level.next_level.Goals as goal

pub paths-init : goal.paths-init
paths-init c = record {
  each = subst (AllByRecursion (IsLiving c.args.parts.now (c.args.count + 1))) (sym c.requires.begun) tt;
  unused = λ e. e;
  judged = λ _. tt;
}

pub take_ways-requires-clause-each : goal.take_ways-requires-clause-each
take_ways-requires-clause-each c =
    let ps : List Part = c.args.parts.now in
    let v = c.from-item.result in
    let is : IsReadTo ps c.args.count v =
    subst (IsReadTo ps c.args.count) (sym c.from-item.is)
    (all_at (IsReadTo ps c.args.count) c.args.living.now v c.paths.from-index c.paths-test.true c.requires.level) in
    subst (λ n. AllByRecursion (IsLiving ps (n + 1)) c.paths.next.living.items) (sym is.2) c.paths.invariant.each

pub paths-preserved : goal.paths-preserved
paths-preserved c =
    let Sought : List ℕ → Type 0 = IsSought c.args.rules.ceiling in
    let ps : List Part = c.args.parts.now in
    let vs : List LivingPath = c.args.living.now in
    let v = c.from-item.result in
    let is : IsReadTo ps c.args.count v =
    subst (IsReadTo ps c.args.count) (sym c.from-item.is)
    (all_at (IsReadTo ps c.args.count) vs v c.paths.from-index c.paths-test.true c.requires.level) in
    let old : List (List ℕ) = paths_of c.paths.next.living.items in
    let new : List (List ℕ) = paths_of c.take_ways.new.next.living.items in
    let so_far = c.paths.invariant in
    let went = c.in_ok-take_ways.ensures.went in
    record {
      each = subst (λ n. AllByRecursion (IsLiving ps (n + 1)) c.take_ways.new.next.living.items) is.2 c.in_ok-take_ways.ensures.each;
      unused = λ e. so_far.unused (went e).before;
      judged = λ e.
          gone_on_more Sought ps (c.args.count + 1) vs c.paths.from-index v old new c.paths-test.true c.from-item.is (went e).still
          (so_far.judged (went e).before)
          (subst (λ n. AreJudged Sought ps (n + 1) new v.kept.choices.items) is.2 (went e).judged);
    }

pub returns-clause-each : goal.returns-clause-each
returns-clause-each c = c.paths.invariant.each

pub returns-clause-before : goal.returns-clause-before
returns-clause-before c = c.paths.invariant.unused

pub returns-clause-judged : goal.returns-clause-judged
returns-clause-judged c = λ e.
    let vs : List LivingPath = c.args.living.now in
    let end = c.paths-test.false in
    subst (λ (ws : List LivingPath). AreGoneOn (IsSought c.args.rules.ceiling) c.args.parts.now (c.args.count + 1) ws
    (paths_of c.paths.next.living.items))
    (take_all c.paths.from-index vs (omega (arith, end))) (c.paths.invariant.judged e)
