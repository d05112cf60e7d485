-- How many bytes choices make at most: as many as the copies have together.
use Rattle.std.proofs.Common.{◌≡◌, ℕ, zero, suc, ◌+◌, ◌<◌, ◌≤◌, List, [], ◌∷◌, length, refl, sym, ap, subst, arith, length-append}
use Rattle.std.specs.Prelude.{get_or}
use Rattle.std.specs.List.{AllByRecursion, sum_by}
use Rattle.std.proofs.lemmas.List.Sums.{sum_by-cons}
use Rattle.jls_diff.specs.Parts.{Part, Same, Differ, way, made, HasWays}
use Rattle.jls_search.specs.Choices.{IsPath, HasSomeWay, prefix_of}
use Rattle.jls_search.specs.SearchLaws.{PartsCanBeSearched}

-- Sums -------------------------------------------------------------------------------------------------------------

-- the sum of a number for each copy
total : (ℕ → ℕ) → ℕ → ℕ
total f zero = 0
total f (suc n) = f 0 + total (λ j. f (suc j)) n

one_of_total : (f : ℕ → ℕ) (n j : ℕ) → j < n → f j ≤ total f n
unfolding total
one_of_total f zero j l = absurd (omega (arith, l))
one_of_total f (suc n) zero l = omega arith
one_of_total f (suc n) (suc j) l = (let r = one_of_total (λ i. f (suc i)) n j (omega (arith, l)) in omega (arith, r))

total-add : (f g h : ℕ → ℕ) (n : ℕ) → ((j : ℕ) → h j ≡ f j + g j) → total h n ≡ total f n + total g n
unfolding total
total-add f g h zero e = refl
total-add f g h (suc n) e =
    let first = e 0 in
    let r = total-add (λ j. f (suc j)) (λ j. g (suc j)) (λ j. h (suc j)) n (λ j. e (suc j)) in omega (arith, first, r)

total-of_list : (f : ℕ → ℕ) (cs : List (List ℕ)) → ((j : ℕ) → j < length cs → f j ≡ length (get_or cs j [])) → total f (length cs)
    ≡ sum_by length cs
unfolding total
total-of_list f [] e = refl
total-of_list f (c ∷ cs) e =
    let first = e 0 (omega arith) in
    let r = total-of_list (λ j. f (suc j)) cs (λ j l. e (suc j) (omega (arith, l))) in
    let s = sum_by-cons length c cs in omega (arith, first, r, s)

-- Ways -------------------------------------------------------------------------------------------------------------

-- what a choice takes is what some copy has there
way_within : (count : ℕ) (p : Part) (c : ℕ) → 0 < count → HasWays count p → IsPath (p ∷ []) (c ∷ [])
    → length (way c p) ≤ total (λ j. length (way j p)) count
way_within count (Same bytes) c some ways path = one_of_total (λ j. length bytes) count 0 some
way_within count (Differ ws) c some ways path =
    one_of_total (λ j. length (get_or ws j [])) count c (subst (λ n. c < n) ways path.0.0)

prefix_within : (count : ℕ) (ps : List Part) (cs : List ℕ) → 0 < count → AllByRecursion (HasWays count) ps → IsPath ps cs
    → length (prefix_of ps cs) ≤ total (λ j. length (made j ps)) count
prefix_within count ps [] some ways path = omega arith
prefix_within count [] (c ∷ cs) some ways path = absurd path
prefix_within count (p ∷ ps) (c ∷ cs) some ways path =
    let here = way_within count p c some ways.0 (path.0, tt) in
    let after = prefix_within count ps cs some ways.1 path.1 in
    let sum =
    total-add (λ j. length (way j p)) (λ j. length (made j ps)) (λ j. length (made j (p ∷ ps))) count
    (λ j. length-append (way j p) (made j ps)) in
    let l = length-append (way c p) (prefix_of ps cs) in omega (arith, here, after, sum, l)

-- Parts ------------------------------------------------------------------------------------------------------------

some_ways : (count : ℕ) (ps : List Part) → 0 < count → AllByRecursion (HasWays count) ps → AllByRecursion HasSomeWay ps
some_ways count [] some ways = tt
some_ways count (Same bytes ∷ ps) some ways = (tt, some_ways count ps some ways.1)
some_ways count (Differ ws ∷ ps) some ways = (subst (λ n. 0 < n) (sym ways.0) some, some_ways count ps some ways.1)

pub parts_can_be_searched : PartsCanBeSearched
parts_can_be_searched copies ps are some short = (
  some_ways (length copies) ps some are.ways,
  λ choices path.
      let most = prefix_within (length copies) ps choices some are.ways path in
      let e = total-of_list (λ j. length (made j ps)) copies (λ j l. ap length (are.make j l)) in omega (arith, most, e, short),
)
