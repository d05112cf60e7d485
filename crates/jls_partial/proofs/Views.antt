-- What is got from a list: a fact of each element, and that it is in the set.
use Rattle.std.proofs.Common.{◌≡◌, ℕ, zero, suc, true, ◌||◌, List, [], ◌∷◌, Some, ap, subst, ◌∙◌}
use Rattle.std.specs.Prelude.{slice_get}
use Rattle.std.specs.Cmp.Lexicographic.{slice_cmp}
use Rattle.std.specs.List.{list_any, AllByRecursion}
use Rattle.std.specs.Ordering.{nat_cmp, eq_by_cmp, is_eq}
use Rattle.std.proofs.lemmas.Bool.{or_right}
use Rattle.std.proofs.lemmas.Cmp.{tied_itself}
use Rattle.jls_values.specs.OrderedSet as set
use Rattle.jls_values.specs.OrderedSetLaws.{contains-items}
use Rattle.jls_partial.specs.LineSetLaws.{lines_total}

-- a fact of each element is one of the element at an index
pub all-slice_get : {A : Type 0} (P : A → Type 0) (xs : List A) (i : ℕ) (x : A) → AllByRecursion P xs → slice_get xs i ≡ Some x → P x
all-slice_get P [] i x all e = absurd cc
all-slice_get P (y ∷ xs) zero x all e = let same : y ≡ x = cc in subst P same all.0
all-slice_get P (y ∷ xs) (suc i) x all e = all-slice_get P xs i x all.1 e

-- what is got from a set is in it
pub got_held : (s : set.OrderedSet (slice_cmp nat_cmp)) (i : ℕ) (x : List ℕ) → slice_get (set.items s) i ≡ Some x → set.contains s x ≡ true
got_held s i x e = contains-items s x ∙ got (set.items s) i e
  where
    got : (xs : List (List ℕ)) (i : ℕ) → slice_get xs i ≡ Some x → list_any (eq_by_cmp (slice_cmp nat_cmp) x) xs ≡ true
    got [] i e = absurd cc
    got (y ∷ xs) zero e = let same : y ≡ x = cc in
        ap (λ b. b || list_any (eq_by_cmp (slice_cmp nat_cmp) x) xs)
        (ap (λ (z : List ℕ). eq_by_cmp (slice_cmp nat_cmp) x z) same ∙ ap is_eq (tied_itself lines_total x))
    got (y ∷ xs) (suc i) e = or_right (eq_by_cmp (slice_cmp nat_cmp) x y) (list_any (eq_by_cmp (slice_cmp nat_cmp) x) xs) (got xs i e)
