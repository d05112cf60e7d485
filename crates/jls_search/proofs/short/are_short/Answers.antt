use Rattle.std.proofs.Common.{◌≡◌, ℕ, zero, suc, ◌+◌, ◌-◌, ◌<◌, ◌≤◌, List, [], ◌∷◌, length, take, get_or, arith, Bor}
use Rattle.std.specs.List.{sum_by}
use Rattle.std.proofs.lemmas.List.Sums.{sum_by-cons}
use Rattle.jls_diff.specs.PartsOf.{bytes_of}
use Rattle.jls_search.proofs.short.are_short.Goals as goal

-- what stands before a copy, and the copy, are no more than all
with_one : (copies : List (Bor (List ℕ))) (i : ℕ) (d : Bor (List ℕ)) → i < length copies
    → sum_by length (bytes_of (take i copies)) + length (get_or copies i d).now ≤ sum_by length (bytes_of copies)
with_one [] i d l = absurd (omega (arith, l))
with_one (c ∷ cs) zero d l = (let s = sum_by-cons length c.now (bytes_of cs) in omega (arith, s))
with_one (c ∷ cs) (suc i) d l =
    let r = with_one cs i d (omega (arith, l)) in
    let s = sum_by-cons length c.now (bytes_of cs) in
    let t = sum_by-cons length c.now (bytes_of (take i cs)) in omega (arith, r, s, t)

too_many : (copies : List (Bor (List ℕ))) (i n most : ℕ) (d : Bor (List ℕ)) → i < length copies → n
    ≡ sum_by length (bytes_of (take i copies))
    → most - n < length (get_or copies i d).now → sum_by length (bytes_of copies) ≤ most → ⊥
too_many copies i n most d l e more few = let r = with_one copies i d l in omega (arith, r, e, more, few)

pub returns-then-copy-count : goal.returns-then-copy-count
returns-then-copy-count c = (
  λ t. absurd cc,
  λ few. absurd (too_many c.args.copies.now c.loop-copy.copy-index c.loop-copy.count 9223372036854775807 _ c.loop-copy-test.true
      c.loop-copy.invariant.0 c.if-copy-count.true few),
)
