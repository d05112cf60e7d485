-- Marks of items: what the marks of a list of items with sources are, and the sources of each.
use Rattle.std.proofs.Common.{◌≡◌, ℕ, Bool, true, false, ◌&&◌, ◌||◌, List, [], ◌∷◌, ◌++◌, map, refl, ap, sym, ◌∙◌, append_assoc}
use Rattle.std.specs.declared.cmp.Ordering.{Ordering}
use Rattle.std.specs.declared.cmp.Ordering.TheVariants.{Less}
use Rattle.std.specs.Cmp.{IsTotalOrder}
use Rattle.std.specs.List.{list_any, AllByRecursion}
use Rattle.std.specs.List.Sorted.{IsStrictlySortedBy}
use Rattle.std.specs.Ordering.{nat_cmp, eq_by_cmp, is_eq}
use Rattle.std.proofs.lemmas.Cmp.{tied_itself, eq_by_cmp_equiv, nat_cmp_total}
use Rattle.std.proofs.lemmas.List.Folds.{list_any-append}
use Rattle.std.proofs.lemmas.Map.Lookups.{CmpEqualImpliesEq, exact_unsigned}
use Rattle.jls_values.specs.OrderedSet as set
use Rattle.jls_values.specs.OrderedSetLaws.{contains-items, contains-insert_all, contains-union, items-from_list, same_set, or_false}
use Rattle.jls_values.proofs.Tests.{absorbed, tied, with_either}
use Rattle.jls_partial.specs.Marks.{mark_cmp, marks_of, sources_of}
use Rattle.jls_partial.specs.MarkLaws.{eq_mark, contains-sources_of}

-- items beside what each of them is given
pub named : {K J : Type 0} (f : K → J) (xs : List K) → map (λ (k : K × J). k.0) (map (λ x. (x, f x)) xs) ≡ xs
named f [] = refl
named f (x ∷ xs) = ap (λ t. x ∷ t) (named f xs)

module _ {K : Type 0} where
  pub marks_of-append : (xs ys : List (K × List ℕ)) → marks_of (xs ++ ys) ≡ marks_of xs ++ marks_of ys
  marks_of-append [] ys = refl
  marks_of-append (x ∷ xs) ys = ap (λ t. map (λ source. (x.0, source)) x.1 ++ t) (marks_of-append xs ys)
      ∙ sym (append_assoc (map (λ source. (x.0, source)) x.1) (marks_of xs) (marks_of ys))

module _ {K : Type 0} (R : K → K → Ordering) where
  -- whether a list of items with sources has an item whose sources pass a test
  abbrev pub has_item : K → (List ℕ → Bool) → List (K × List ℕ) → Bool
  has_item x g ks = list_any (λ k. eq_by_cmp R x k.0 && g k.1) ks

  -- whether it has a mark
  abbrev pub has_mark : K → ℕ → List (K × List ℕ) → Bool
  has_mark x s ks = has_item x (list_any (eq_by_cmp nat_cmp s)) ks

  -- a mark is one of an item with its sources exactly where it is of that item and of one of these sources
  any_map_mark : (k l : K) (s : ℕ) (ss : List ℕ)
      → list_any (eq_by_cmp (mark_cmp R) (k, s)) (map (λ t. (l, t)) ss) ≡ (eq_by_cmp R k l && list_any (eq_by_cmp nat_cmp s) ss)
  any_map_mark k l s [] = none (eq_by_cmp R k l)
    where
      none : (b : Bool) → false ≡ (b && false)
      none true = refl
      none false = refl
  any_map_mark k l s (t ∷ ss) =
      (λ i. eq_mark R k l s t i || any_map_mark k l s ss i)
      ∙ with_either (eq_by_cmp R k l) (eq_by_cmp nat_cmp s t) (list_any (eq_by_cmp nat_cmp s) ss)

  -- a mark is one of a list exactly where its item has that source there
  pub any_marks : (x : K) (s : ℕ) (ks : List (K × List ℕ)) → list_any (eq_by_cmp (mark_cmp R) (x, s)) (marks_of ks) ≡ has_mark x s ks
  any_marks x s [] = refl
  any_marks x s (k ∷ ks) =
      list_any-append (eq_by_cmp (mark_cmp R) (x, s)) (map (λ t. (k.0, t)) k.1) (marks_of ks)
      ∙ (λ i. any_map_mark x k.0 s k.1 i || any_marks x s ks i)

  -- the items alone
  pub any_items : (x : K) (ks : List (K × List ℕ)) → list_any (eq_by_cmp R x) (map (λ k. k.0) ks) ≡ has_item x (λ _. true) ks
  any_items x [] = refl
  any_items x (k ∷ ks) = (λ i. and_true (eq_by_cmp R x k.0) i || any_items x ks i)
    where
      and_true : (b : Bool) → b ≡ (b && true)
      and_true true = refl
      and_true false = refl

  -- the sources of an item by whether it has them as marks
  pub any_sources : (marks : set.OrderedSet (mark_cmp R)) (x : K) (s : ℕ)
      → list_any (eq_by_cmp nat_cmp s) (sources_of R marks x) ≡ set.contains marks (x, s)
  any_sources marks x s = sym (contains-items _ s) ∙ contains-sources_of R marks x s

  -- an item that is below all others is none of them
  not_above : (x : K) (g : List ℕ → Bool) (ks : List (K × List ℕ)) → AllByRecursion (λ y. R x y ≡ Less) (map (λ k. k.0) ks)
      → has_item x g ks ≡ false
  not_above x g [] h = refl
  not_above x g (k ∷ ks) h = (λ i. (is_eq (h.0 i) && g k.1) || not_above x g ks h.1 i)

  module _ (o : IsTotalOrder R) where
    -- of items that rise, each has its own sources
    abbrev pub HasOwn : List (K × List ℕ) → K × List ℕ → Type 0
    HasOwn ks k = (s : ℕ) → has_mark k.0 s ks ≡ list_any (eq_by_cmp nat_cmp s) k.1

    following : (first : K × List ℕ) (ks later : List (K × List ℕ)) → AllByRecursion (λ y. R first.0 y ≡ Less) (map (λ k. k.0) later)
        → AllByRecursion (HasOwn ks) later → AllByRecursion (HasOwn (first ∷ ks)) later
    following first ks [] h a = tt
    following first ks (k ∷ later) h a = (
      λ s.
          let apart : eq_by_cmp R k.0 first.0 ≡ false = (eq_by_cmp_equiv o).symm k.0 first.0 ∙ ap is_eq h.0 in
          ap (λ b. (b && list_any (eq_by_cmp nat_cmp s) first.1) || has_mark k.0 s ks) apart ∙ a.0 s,
      following first ks later h.1 a.1,
    )

    pub each_has_own : (ks : List (K × List ℕ)) → IsStrictlySortedBy R (map (λ k. k.0) ks) → AllByRecursion (HasOwn ks) ks
    unfolding IsStrictlySortedBy
    each_has_own [] h = tt
    each_has_own (k ∷ ks) h = (
      λ s. (λ i. (is_eq (tied_itself o k.0 i) && list_any (eq_by_cmp nat_cmp s) k.1) || not_above k.0 (list_any (eq_by_cmp nat_cmp s)) ks
          h.0 i) ∙ or_false (list_any (eq_by_cmp nat_cmp s) k.1),
      following k ks ks h.0 (each_has_own ks h.1),
    )

    -- all items of a list with the sources that a set of marks gives them
    pub has_given : CmpEqualImpliesEq R → (marks : set.OrderedSet (mark_cmp R)) (y : K) (s : ℕ) (xs : List K)
        → has_mark y s (map (λ x. (x, sources_of R marks x)) xs) ≡ (list_any (eq_by_cmp R y) xs && set.contains marks (y, s))
    has_given exact marks y s [] = refl
    has_given exact marks y s (x ∷ xs) =
        elim (eq_by_cmp R y x) as (λ b. eq_by_cmp R y x ≡ b
        → ((b && list_any (eq_by_cmp nat_cmp s) (sources_of R marks x)) || has_mark y s (map (λ x. (x, sources_of R marks x)) xs))
        ≡ ((b || list_any (eq_by_cmp R y) xs) && set.contains marks (y, s))) [
          | true ↦ λ e.
              let same : y ≡ x = exact y x (tied (R y x) e) in
              let own : list_any (eq_by_cmp nat_cmp s) (sources_of R marks x) ≡ set.contains marks (y, s) = any_sources marks x s
              ∙ ap (λ (z : K). set.contains marks (z, s)) (sym same) in
              (λ i. own i || has_given exact marks y s xs i) ∙ absorb (set.contains marks (y, s)) (list_any (eq_by_cmp R y) xs)
          | false ↦ λ e. has_given exact marks y s xs
        ] refl
      where
        absorb : (a b : Bool) → (a || (b && a)) ≡ a
        absorb true b = refl
        absorb false true = refl
        absorb false false = refl

-- numbers in order are the sources of an item that has them and no others
pub sources_again : {K : Type 0} (R : K → K → Ordering) (marks : set.OrderedSet (mark_cmp R)) (x : K) (ss : List ℕ)
    → IsStrictlySortedBy nat_cmp ss → ((s : ℕ) → set.contains marks (x, s) ≡ list_any (eq_by_cmp nat_cmp s) ss) → sources_of R marks x ≡ ss
sources_again R marks x ss rises same =
    ap set.items (same_set nat_cmp_total exact_unsigned _ (set.from_list ss)
    (λ s. contains-sources_of R marks x s ∙ same s ∙ sym (contains-list s))) ∙ items-from_list nat_cmp_total ss rises
  where
    contains-list : (s : ℕ) → set.contains (set.from_list {R = nat_cmp} ss) s ≡ list_any (eq_by_cmp nat_cmp s) ss
    contains-list s = contains-items (set.from_list ss) s ∙ ap (list_any (eq_by_cmp nat_cmp s)) (items-from_list nat_cmp_total ss rises)

-- what is put into a set is above what was there
module _ {K : Type 0} {R : K → K → Ordering} (o : IsTotalOrder R) (exact : CmpEqualImpliesEq R) where
  -- a set into which items were put has the set from before in it
  pub prefix_above : (s : set.OrderedSet R) (xs : List K) → set.union s (set.insert_all s xs) ≡ set.insert_all s xs
  prefix_above s xs = same_set o exact _ _ (λ q.
      contains-union o s (set.insert_all s xs) q
      ∙ ap (λ b. set.contains s q || b) (contains-insert_all o s xs q)
      ∙ absorbed (set.contains s q) (list_any (eq_by_cmp R q) xs)
      ∙ sym (contains-insert_all o s xs q))
