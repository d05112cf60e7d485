use Rattle.std.proofs.Common.{◌≡◌, ℕ, List, [], length, sym, subst, ◌∙◌, arith}
use Rattle.std.specs.Prelude.{get_or}
use Rattle.jls_diff.specs.Parts.{Part, Same}
use Rattle.jls_search.specs.Choices.{IsFirstWay}
use Rattle.jls_search.specs.Faultless.{IsSought}
use Rattle.jls_search.specs.LevelSearches.{paths_of}
use Rattle.jls_search.proofs.LevelPaths.{all_ways}
use Rattle.jls_search.proofs.ReaderLevels.{ways_so_far}
use Rattle.jls_search.proofs.next_level.take_ways.Goals as goal

pub ways-preserved : goal.ways-preserved
ways-preserved c =
    let Sought : List ℕ → Type 0 = IsSought c.args.rules.ceiling in
    let ps : List Part = c.args.parts.now in
    let path : List ℕ = c.args.from.now.kept.choices.items in
    let at : c.len-place.result ≡ length path = c.len-place.ensures ∙ c.args.from.now.kept.choices.ok.0 in
    let old : List (List ℕ) = paths_of c.ways.next.living.items in
    let new : List (List ℕ) = paths_of c.take_way.new.next.living.items in
    let took = c.in_ok-take_way.ensures in
    let so_far = c.ways.invariant in
    let next = c.in-Some.ensures.some in
    record {
      first = subst (λ n. IsFirstWay (get_or ps n (Same [])) c.in-Some.way) at next.0;
      each = took.each;
      unused = λ e. so_far.unused (took.before e);
      still = λ e other lives. (took.taken e).still other (so_far.still (took.before e) other lives);
      before = λ e way less first.
          ways_so_far Sought ps path c.ways.choice old new (took.taken e) (so_far.before (took.before e)) way first
          (λ more. next.1 way more less (subst (λ n. IsFirstWay (get_or ps n (Same [])) way) (sym at) first));
    }

pub returns-in-None-clause-went : goal.returns-in-None-clause-went
returns-in-None-clause-went c = λ e.
    let Sought : List ℕ → Type 0 = IsSought c.args.rules.ceiling in
    let ps : List Part = c.args.parts.now in
    let path : List ℕ = c.args.from.now.kept.choices.items in
    let at : c.len-place.result ≡ length path = c.len-place.ensures ∙ c.args.from.now.kept.choices.ok.0 in
    let old : List (List ℕ) = paths_of c.ways.next.living.items in
    let new : List (List ℕ) = paths_of c.take_way.new.next.living.items in
    let took = c.in_ok-take_way.ensures in
    let so_far = c.ways.invariant in
    record {
      before = so_far.unused (took.before e);
      still = λ other lives. (took.taken e).still other (so_far.still (took.before e) other lives);
      judged = all_ways Sought ps path new (λ way first.
          ways_so_far Sought ps path c.ways.choice old new (took.taken e) (so_far.before (took.before e)) way first
          (λ more. c.in-None.ensures.none way more (subst (λ n. IsFirstWay (get_or ps n (Same [])) way) (sym at) first)));
    }

pub ways-smaller : goal.ways-smaller
ways-smaller c = let same = c.in_ok-take_way.ensures.tries in let less = c.ways-test.true in omega (arith, same, less)
