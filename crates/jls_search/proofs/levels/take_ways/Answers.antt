use Rattle.std.proofs.Common.{ℕ, ◌<◌, List, length, sym, subst, arith}
use Rattle.jls_diff.specs.Parts.{Part}
use Rattle.jls_search.specs.Choices.{IsPath}
use Rattle.jls_search.specs.Faultless.{IsSought}
use Rattle.jls_search.specs.Search.{lists_of}
use Rattle.jls_search.proofs.LevelPaths.{all_ways, one_at_most, still_lives}
use Rattle.jls_search.proofs.NextLevels.{each_way, ways_up_to}
use Rattle.jls_search.proofs.Paths.{path_more}
use Rattle.jls_search.proofs.levels.take_ways.Goals as goal

pub take_path-requires-clause-path : goal.take_path-requires-clause-path
take_path-requires-clause-path c =
    let ps : List Part = c.args.parts.now in
    let path : List ℕ = c.args.path.now in
    let l : length path < length ps = c.requires.more in
    subst (IsPath ps) (sym c.in_ok-begin.ensures)
    (path_more ps path c.ways.choice c.requires.path l c.ways.invariant.first)

pub ways-preserved : goal.ways-preserved
ways-preserved c =
    let Sought : List ℕ → Type 0 = IsSought c.args.judge.now.ceiling in
    let ps : List Part = c.args.parts.now in
    let path : List ℕ = c.args.path.now in
    let begin : List ℕ = c.in_ok-begin.begin.items in
    let old : List (List ℕ) = lists_of c.ways.begun.living.items in
    let new : List (List ℕ) = lists_of c.take_path.new.living.items in
    let taken = c.in_ok-take_path.ensures in
    let so_far = c.ways.invariant in
    let next = c.in-Some.ensures.some in
    let grew = one_at_most Sought ps begin old new taken in
    record {
      left = omega (arith, so_far.left);
      spent = omega (arith, so_far.spent, grew, c.ways-test.true);
      first = next.0;
      each = each_way Sought ps path c.ways.choice begin c.in_ok-begin.ensures old new taken so_far.each;
      still = λ other lives. still_lives Sought ps begin old new taken other (so_far.still other lives);
      before = λ way less first.
          ways_up_to Sought ps path c.ways.choice begin c.in_ok-begin.ensures old new taken so_far.before way first
          (λ more. next.1 way more less first);
    }

pub returns-in-None-clause-still : goal.returns-in-None-clause-still
returns-in-None-clause-still c = λ other lives.
    still_lives (IsSought c.args.judge.now.ceiling) c.args.parts.now c.in_ok-begin.begin.items (lists_of c.ways.begun.living.items)
    (lists_of c.take_path.new.living.items) c.in_ok-take_path.ensures other (c.ways.invariant.still other lives)

pub returns-in-None-clause-judged : goal.returns-in-None-clause-judged
returns-in-None-clause-judged c = λ _.
    let Sought : List ℕ → Type 0 = IsSought c.args.judge.now.ceiling in
    let ps : List Part = c.args.parts.now in
    let path : List ℕ = c.args.path.now in
    let new : List (List ℕ) = lists_of c.take_path.new.living.items in
    all_ways Sought ps path new
    (λ way first. ways_up_to Sought ps path c.ways.choice c.in_ok-begin.begin.items c.in_ok-begin.ensures
    (lists_of c.ways.begun.living.items) new
    c.in_ok-take_path.ensures c.ways.invariant.before way first (λ more. c.in-None.ensures.none way more first))

pub returns-in-None-clause-spent : goal.returns-in-None-clause-spent
returns-in-None-clause-spent c =
    let so_far = c.ways.invariant in
    let grew = one_at_most (IsSought c.args.judge.now.ceiling) c.args.parts.now c.in_ok-begin.begin.items
    (lists_of c.ways.begun.living.items)
    (lists_of c.take_path.new.living.items) c.in_ok-take_path.ensures in
    omega (arith, so_far.spent, grew, c.ways-test.true)
