-- Lists of numbers in ascending order, and the sets that they are seen as.
use Rattle.std.proofs.Common.{◌≡◌, ℕ, zero, suc, ◌^◌, ◌<◌, ◌≤◌, Bool, true, false, ◌||◌, List, [], ◌∷◌, ◌++◌, length, get_or, Ok, Err, refl}
use Rattle.std.proofs.Common.{ap, sym, subst, ◌∙◌, arith, inl, inr}
use Rattle.std.specs.declared.cmp.Ordering.TheVariants.{Less}
use Rattle.std.specs.Cmp.{nat_cmp_is}
use Rattle.std.specs.Ordering.{nat_cmp, eq_by_cmp, is_eq}
use Rattle.std.specs.List.{list_any, insert, AllByRecursion}
use Rattle.std.specs.List.Sorted.{IsStrictlySortedBy, IsBinarySearchResult}
use Rattle.std.proofs.lemmas.Bool.{cases_lt}
use Rattle.std.proofs.lemmas.Cmp.{nat_cmp_total, tied_itself}
use Rattle.std.proofs.lemmas.List.Sorted.{searched}
use Rattle.std.proofs.lemmas.Map.Keys.{below_from_sorted}
use Rattle.std.proofs.lemmas.Map.Lookups.{exact_unsigned}
use Rattle.jls_values.specs.Join.{IsBelow}
use Rattle.jls_values.specs.SourceList.{IsSourceList}
use Rattle.jls_values.specs.OrderedSet as set
use Rattle.jls_values.specs.OrderedSetLaws.{same_set, contains-insert, contains-insert_all, contains-from_list, contains-union}
use Rattle.jls_values.specs.OrderedSetLaws.{insert_all-append}
use Rattle.jls_values.proofs.Inserts.{all-insert, any-insert, none_at_gap}
use Rattle.jls_values.proofs.Tests.{absorbed, tied}

-- a list in ascending order
abbrev pub Rises : List ℕ → Type 0
Rises xs = IsStrictlySortedBy nat_cmp xs

-- in a list that rises, a later number is at least an earlier one
pub never_falls : (xs : List ℕ) → Rises xs → (i j : ℕ) → i ≤ j → j < length xs → get_or xs i 0 ≤ get_or xs j 0
never_falls xs h i j le lt =
    elim (cases_lt i j) [
      | inl less ↦ omega (arith, below_from_sorted xs i j 0 h less lt)
      | inr more ↦ let same : i ≡ j = omega arith in rw same (omega arith)
    ]

-- a number that stands in a list is in the set
pub there-held : (xs : List ℕ) (i x : ℕ) → i < length xs → get_or xs i 0 ≡ x → set.contains (set.from_list {R = nat_cmp} xs) x ≡ true
there-held xs i x lt is = contains-from_list nat_cmp_total xs x ∙ found xs i lt is
  where
    found : (xs : List ℕ) (i : ℕ) → i < length xs → get_or xs i 0 ≡ x → list_any (eq_by_cmp nat_cmp x) xs ≡ true
    found [] i lt is = absurd (omega arith)
    found (y ∷ xs) zero lt is = ap (λ b. b || list_any (eq_by_cmp nat_cmp x) xs)
        (ap (λ z. eq_by_cmp nat_cmp x z) is ∙ ap is_eq (tied_itself nat_cmp_total x))
    found (y ∷ xs) (suc i) lt is = ap (λ b. eq_by_cmp nat_cmp x y || b) (found xs i (omega arith) is) ∙ or_true (eq_by_cmp nat_cmp x y)
      where
        or_true : (b : Bool) → (b || true) ≡ true
        or_true true = refl
        or_true false = refl

-- where a number belongs in a list: those before the place are below it, those from there on above it
pub record IsGap (xs : List ℕ) (i x : ℕ) : Type 0 where
  pub within : i ≤ length xs
  pub below : (k : ℕ) → k < i → get_or xs k 0 < x
  pub above : (k : ℕ) → i ≤ k → k < length xs → x < get_or xs k 0

-- a gap behind the first number is a gap of the rest
next : (y : ℕ) (xs : List ℕ) (i x : ℕ) → IsGap (y ∷ xs) (suc i) x → IsGap xs i x
next y xs i x g = record {
  within = omega (arith, g.within);
  below = λ k lt. g.below (suc k) (omega arith);
  above = λ k le lt. g.above (suc k) (omega arith) (omega arith);
}

is_less : (x y : ℕ) → x < y → nat_cmp x y ≡ Less
is_less x y lt = sym (nat_cmp_is x y Less lt)

-- a number that has a gap does not stand in the list
pub gap-new : (xs : List ℕ) (i x : ℕ) → IsGap xs i x → set.contains (set.from_list {R = nat_cmp} xs) x ≡ false
gap-new xs i x g = contains-from_list nat_cmp_total xs x
    ∙ none_at_gap nat_cmp_total xs i x 0 (λ k lt inside. is_less (get_or xs k 0) x (g.below k lt))
    (λ k le lt. is_less x (get_or xs k 0) (g.above k le lt))

-- one number more in the list is one more in the set
pub from_list-insert : (xs : List ℕ) (i x : ℕ) → i ≤ length xs → set.from_list {R = nat_cmp} (insert xs i x)
    ≡ set.insert (set.from_list {R = nat_cmp} xs) x
from_list-insert xs i x le = same_set nat_cmp_total exact_unsigned _ _ (λ q.
    contains-from_list nat_cmp_total (insert xs i x) q ∙ any-insert (eq_by_cmp nat_cmp q) xs i x le
    ∙ ap (λ b. eq_by_cmp nat_cmp q x || b) (sym (contains-from_list nat_cmp_total xs q))
    ∙ sym (contains-insert nat_cmp_total (set.from_list xs) x q))

all-above : (x : ℕ) (xs : List ℕ) → ((k : ℕ) → k < length xs → x < get_or xs k 0) → AllByRecursion (λ y. nat_cmp x y ≡ Less) xs
all-above x [] h = tt
all-above x (y ∷ xs) h = (is_less x y (h 0 (omega arith)), all-above x xs (λ k lt. h (suc k) (omega arith)))

-- a list that rises still does with a number put in at its gap
pub rises-insert : (xs : List ℕ) (i x : ℕ) → IsGap xs i x → Rises xs → Rises (insert xs i x)
unfolding IsStrictlySortedBy
rises-insert xs zero x g h = (all-above x xs (λ k lt. g.above k (omega arith) lt), h)
rises-insert [] (suc i) x g h = absurd (omega (arith, g.within))
rises-insert (y ∷ xs) (suc i) x g h = (
  all-insert (λ z. nat_cmp y z ≡ Less) xs i x (omega (arith, g.within)) h.0 (is_less y x (g.below 0 (omega arith))),
  rises-insert xs i x (next y xs i x g) h.1,
)

pub sources-none : IsSourceList []
unfolding IsStrictlySortedBy
sources-none = record { sorted = tt; small = tt }

pub sources-insert : (xs : List ℕ) (i x : ℕ) → x < 2 ^ 32 → IsGap xs i x → IsSourceList xs → IsSourceList (insert xs i x)
sources-insert xs i x lt g h =
    record { sorted = rises-insert xs i x g h.sorted; small = all-insert (λ y. y < 2 ^ 32) xs i x g.within h.small lt }

-- a number that is in the set is in it once
pub insert-there : (s : set.OrderedSet nat_cmp) (x : ℕ) → set.contains s x ≡ true → set.insert s x ≡ s
insert-there s x h = same_set nat_cmp_total exact_unsigned _ _ (λ q. contains-insert nat_cmp_total s x q ∙ step q)
  where
    step : (q : ℕ) → (eq_by_cmp nat_cmp q x || set.contains s q) ≡ set.contains s q
    step q =
        elim (eq_by_cmp nat_cmp q x) as (λ b. eq_by_cmp nat_cmp q x ≡ b → (b || set.contains s q) ≡ set.contains s q) [
          | true ↦ λ e. sym h ∙ ap (set.contains s) (sym (exact_unsigned q x (tied (nat_cmp q x) e)))
          | false ↦ λ e. refl
        ] refl

-- the number stands where the search found it
pub found : (xs ys : List ℕ) (i x : ℕ) (s : set.OrderedSet nat_cmp) → IsSourceList xs → set.from_list xs ≡ s → ys ≡ xs
    → IsBinarySearchResult (λ y. nat_cmp y x) ys (Ok i) → set.contains s x ≡ true
found xs ys i x s kept is same search =
    let r = searched xs x (Ok i) (subst (λ (zs : List ℕ). IsBinarySearchResult (λ y. nat_cmp y x) zs (Ok i)) same search)
    (never_falls xs kept.sorted) in
    ap (λ (t : set.OrderedSet nat_cmp). set.contains t x) (sym is) ∙ there-held xs i x r.0 r.1

-- where the search did not find the number, it belongs at the place that the search came to
pub gap : (xs ys : List ℕ) (i x : ℕ) → IsSourceList xs → ys ≡ xs → IsBinarySearchResult (λ y. nat_cmp y x) ys (Err i) → IsGap xs i x
gap xs ys i x kept same search =
    let r = searched xs x (Err i) (subst (λ (zs : List ℕ). IsBinarySearchResult (λ y. nat_cmp y x) zs (Err i)) same search)
    (never_falls xs kept.sorted) in
    record { within = r.0; below = r.1; above = r.2 }

-- some of the numbers are held: all that was held is, and nothing that all of them do not give
pub prefix_between : (s : set.OrderedSet nat_cmp) (xs ys all : List ℕ) → all ≡ xs ++ ys
    → IsBelow set.union s (set.insert_all s xs) × IsBelow set.union (set.insert_all s xs) (set.insert_all s all)
prefix_between s xs ys all is = (
  same_set nat_cmp_total exact_unsigned _ _ (λ q.
      contains-union nat_cmp_total s (set.insert_all s xs) q
      ∙ ap (λ b. set.contains s q || b) (contains-insert_all nat_cmp_total s xs q)
      ∙ absorbed (set.contains s q) (list_any (eq_by_cmp nat_cmp q) xs)
      ∙ sym (contains-insert_all nat_cmp_total s xs q)),
  ap (λ (zs : List ℕ). set.union (set.insert_all s xs) (set.insert_all s zs)) is
      ∙ ap (set.union (set.insert_all s xs)) (insert_all-append s xs ys)
      ∙ same_set nat_cmp_total exact_unsigned _ _ (λ q.
      let t = set.insert_all s xs in
      contains-union nat_cmp_total t (set.insert_all t ys) q
      ∙ ap (λ b. set.contains t q || b) (contains-insert_all nat_cmp_total t ys q)
      ∙ absorbed (set.contains t q) (list_any (eq_by_cmp nat_cmp q) ys)
      ∙ sym (contains-insert_all nat_cmp_total t ys q))
      ∙ sym (insert_all-append s xs ys) ∙ ap (set.insert_all s) (sym is),
)
