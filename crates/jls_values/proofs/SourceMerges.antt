-- Numbers that are put into the start of a list in ascending order, whose other numbers stand above them.
use Rattle.std.proofs.Common.{◌≡◌, ℕ, zero, suc, ◌+◌, ◌-◌, ◌^◌, ◌<◌, ◌≤◌, ◌||◌, List, [], ◌∷◌, ◌++◌, length, get_or, take, drop, ap, sym}
use Rattle.std.proofs.Common.{subst, ◌∙◌, arith, inl, inr, length-append, length-drop}
use Rattle.std.specs.declared.cmp.Ordering.TheVariants.{Less}
use Rattle.std.specs.Ordering.{nat_cmp, eq_by_cmp}
use Rattle.std.specs.List.{list_any, insert, AllByRecursion}
use Rattle.std.specs.List.Sorted.{IsStrictlySortedBy}
use Rattle.std.proofs.Math.Seq.{get_or-append_right}
use Rattle.std.proofs.lemmas.Bool.{cases_lt}
use Rattle.std.proofs.lemmas.Cmp.{nat_cmp_total}
use Rattle.std.proofs.lemmas.List.{get_or-drop, get_or_append_left, take_all, take-append-drop}
use Rattle.std.proofs.lemmas.List.Edits.{insert-append_left}
use Rattle.std.proofs.lemmas.List.Folds.{list_any-append}
use Rattle.std.proofs.lemmas.Map.Lookups.{exact_unsigned}
use Rattle.jls_values.specs.SourceList.{IsSourceList}
use Rattle.jls_values.specs.OrderedSet as set
use Rattle.jls_values.specs.OrderedSetLaws.{same_set, or_assoc, contains-insert, contains-from_list}
use Rattle.jls_values.proofs.SourceLists.{Rises, never_falls, IsGap, sources-insert}

all-left : (P : ℕ → Type 0) (xs ys : List ℕ) → AllByRecursion P (xs ++ ys) → AllByRecursion P xs
all-left P [] ys h = tt
all-left P (x ∷ xs) ys h = (h.0, all-left P xs ys h.1)

-- the first part of a list that rises does
rises-left : (xs ys : List ℕ) → Rises (xs ++ ys) → Rises xs
unfolding IsStrictlySortedBy
rises-left [] ys h = tt
rises-left (x ∷ xs) ys h = (all-left (λ y. nat_cmp x y ≡ Less) xs ys h.0, rises-left xs ys h.1)

-- the second part of a list that rises does
rises-right : (xs ys : List ℕ) → Rises (xs ++ ys) → Rises ys
unfolding IsStrictlySortedBy
rises-right [] ys h = h
rises-right (x ∷ xs) ys h = rises-right xs ys h.1

-- the prefix of a list in order is in order
pub sources-left : (xs ys : List ℕ) → IsSourceList (xs ++ ys) → IsSourceList xs
sources-left xs ys h = record { sorted = rises-left xs ys h.sorted; small = all-left (λ n. n < 2 ^ 32) xs ys h.small }

all-made : (x : ℕ) (xs : List ℕ) → ((k : ℕ) → k < length xs → x < get_or xs k 0) → AllByRecursion (λ n. x < n) xs
all-made x [] h = tt
all-made x (y ∷ xs) h = (h 0 (omega arith), all-made x xs (λ k lt. h (suc k) (omega arith)))

-- what is below all numbers is below the one at a place
all-at : (x : ℕ) (xs : List ℕ) → AllByRecursion (λ n. x < n) xs → (k : ℕ) → k < length xs → x < get_or xs k 0
all-at x [] h k lt = absurd (omega arith)
all-at x (y ∷ xs) h zero lt = h.0
all-at x (y ∷ xs) h (suc k) lt = all-at x xs h.1 k (omega arith)

-- what stands from a place on is above what the number there is above
pub above_from : (xs ys : List ℕ) (i x : ℕ) → IsSourceList (xs ++ ys) → i < length ys → x < get_or ys i 0
    → AllByRecursion (λ n. x < n) (drop i ys)
above_from xs ys i x h lt less = all-made x (drop i ys) each
  where
    each : (k : ℕ) → k < length (drop i ys) → x < get_or (drop i ys) k 0
    each k within =
        let inside : i + k < length ys = omega (arith, length-drop i ys) in
        let more : get_or ys i 0 ≤ get_or ys (i + k) 0 = never_falls ys (rises-right xs ys h.sorted) i (i + k) (omega arith) inside in
        let at : get_or (drop i ys) k 0 ≡ get_or ys (i + k) 0 = get_or-drop i ys k 0 in
        omega arith

-- where a number belongs is the same with numbers above it after that
gap-before : (xs ys : List ℕ) (i x : ℕ) → IsGap xs i x → AllByRecursion (λ n. x < n) ys → IsGap (xs ++ ys) i x
gap-before xs ys i x g a = record {
  within = omega (arith, length-append xs ys, g.within);
  below = λ k lt. let e : get_or (xs ++ ys) k 0 ≡ get_or xs k 0 = get_or_append_left xs ys 0 k (omega (arith, g.within)) in
      omega (arith, g.below k lt);
  above = above;
}
  where
    above : (k : ℕ) → i ≤ k → k < length (xs ++ ys) → x < get_or (xs ++ ys) k 0
    above k le lt =
        elim (cases_lt k (length xs)) [
          | inl less ↦ let e : get_or (xs ++ ys) k 0 ≡ get_or xs k 0 = get_or_append_left xs ys 0 k less in omega (arith, g.above k le less)
          | inr more ↦
              let e : get_or (xs ++ ys) k 0 ≡ get_or ys (k - length xs) 0 = get_or-append_right xs ys k 0 more in
              let inside : k - length xs < length ys = omega (arith, length-append xs ys) in
              omega (arith, all-at x ys a (k - length xs) inside)
        ]

-- a number that is put where it belongs leaves a list in order, with the numbers above it after that
pub sources-insert-before : (xs ys : List ℕ) (i x : ℕ) → x < 2 ^ 32 → IsGap xs i x → AllByRecursion (λ n. x < n) ys
    → IsSourceList (xs ++ ys) → IsSourceList (insert xs i x ++ ys)
sources-insert-before xs ys i x fits g a h =
    subst IsSourceList (insert-append_left xs ys i x g.within) (sources-insert (xs ++ ys) i x fits (gap-before xs ys i x g a) h)

-- one number more in the prefix is one more in the whole
pub from_list-insert-before : (xs zs ys : List ℕ) (x : ℕ) → set.from_list {R = nat_cmp} zs ≡ set.insert (set.from_list xs) x
    → set.from_list {R = nat_cmp} (zs ++ ys) ≡ set.insert (set.from_list (xs ++ ys)) x
from_list-insert-before xs zs ys x e = same_set nat_cmp_total exact_unsigned _ _ (λ q.
    let p = eq_by_cmp nat_cmp q in
    contains-from_list nat_cmp_total (zs ++ ys) q ∙ list_any-append p zs ys
    ∙ ap (λ b. b || list_any p ys) (sym (contains-from_list nat_cmp_total zs q) ∙ ap (λ (s : set.OrderedSet nat_cmp). set.contains s q) e
    ∙ contains-insert nat_cmp_total (set.from_list xs) x q ∙ ap (λ b. p x || b) (contains-from_list nat_cmp_total xs q))
    ∙ or_assoc (p x) (list_any p xs) (list_any p ys)
    ∙ ap (λ b. p x || b) (sym (list_any-append p xs ys) ∙ sym (contains-from_list nat_cmp_total (xs ++ ys) q))
    ∙ sym (contains-insert nat_cmp_total (set.from_list (xs ++ ys)) x q))

-- a list that was cut at a place is the prefix and the rest
pub cut_again : (xs prefix rest : List ℕ) (n : ℕ) → prefix ≡ take n xs → rest ≡ take (length xs - n) (drop n xs) → prefix ++ rest ≡ xs
cut_again xs prefix rest n f r =
    let whole : take (length xs - n) (drop n xs) ≡ drop n xs = take_all (length xs - n) (drop n xs) (omega (arith, length-drop n xs)) in
    rw (f, r, whole) (take-append-drop n xs)
