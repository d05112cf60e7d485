-- What one element more of a list that is mapped adds to a text or to a test of it.
use Rattle.std.proofs.Common.{◌≡◌, ℕ, zero, suc, ◌+◌, ◌<◌, Bool, true, false, ◌&&◌, ◌||◌, List, [], ◌∷◌, ◌++◌, length, map, take}
use Rattle.std.proofs.Common.{get_or, ap, subst, sym, ◌∙◌, refl, arith}
use Rattle.std.specs.List.{AllByRecursion, flat_map, list_all, list_any}
use Rattle.std.proofs.lemmas.List.{append-nil, map-append, take_more}
use Rattle.std.proofs.lemmas.Grind.{flat_map-append}
use Rattle.std.proofs.lemmas.List.Folds.{list_all-append, list_any-append}

module _ {A X : Type 0} (g : A → X) (xs : List A) (i : ℕ) (x : A) (within : i < length xs) (is : x ≡ get_or xs i x) where
  -- one element more, mapped
  pub mapped_one_more : map g (take (i + 1) xs) ≡ map g (take i xs) ++ g x ∷ []
  mapped_one_more =
      ap (map g) (take_more xs i x within) ∙ map-append g (take i xs) (get_or xs i x ∷ [])
      ∙ ap (λ (y : A). map g (take i xs) ++ g y ∷ []) (sym is)

  -- its text stands at the end
  pub text_one_more : (f : X → List ℕ) → flat_map f (map g (take (i + 1) xs)) ≡ flat_map f (map g (take i xs)) ++ f (g x)
  text_one_more f =
      ap (flat_map f) mapped_one_more ∙ flat_map-append f (map g (take i xs)) (g x ∷ [])
      ∙ ap (λ t. flat_map f (map g (take i xs)) ++ t) (append-nil (f (g x)))

  -- none so far, and not this one
  pub none_so_far : (p : X → Bool) → list_any p (map g (take i xs)) ≡ false → p (g x) ≡ false
      → list_any p (map g (take (i + 1) xs)) ≡ false
  none_so_far p before here =
      ap (list_any p) mapped_one_more ∙ list_any-append p (map g (take i xs)) (g x ∷ []) ∙ (rw (before, here) refl)

  -- all so far, and this one
  pub all_so_far : (p : X → Bool) → list_all p (map g (take i xs)) ≡ true → p (g x) ≡ true
      → list_all p (map g (take (i + 1) xs)) ≡ true
  all_so_far p before here =
      ap (list_all p) mapped_one_more ∙ list_all-append p (map g (take i xs)) (g x ∷ []) ∙ (rw (before, here) refl)

or_true : (b : Bool) → (b || true) ≡ true
or_true true = refl
or_true false = refl

and_false : (b : Bool) → (b && false) ≡ false
and_false true = refl
and_false false = refl

-- one that is found is found among all
pub found_at : {A X : Type 0} (p : X → Bool) (g : A → X) (xs : List A) (i : ℕ) (d : A) → i < length xs → p (g (get_or xs i d)) ≡ true
    → list_any p (map g xs) ≡ true
found_at p g [] i d l e = absurd (omega (arith, l))
found_at p g (x ∷ xs) zero d l e = rw e refl
found_at p g (x ∷ xs) (suc i) d l e = ap (λ b. p (g x) || b) (found_at p g xs i d (omega (arith, l)) e) ∙ or_true (p (g x))

-- none so far, and not this one, of a list itself
pub one_more_isnt : {A : Type 0} (p : A → Bool) (xs : List A) (i : ℕ) (x : A) → i < length xs → x ≡ get_or xs i x
    → list_any p (take i xs) ≡ false → p x ≡ false → list_any p (take (i + 1) xs) ≡ false
one_more_isnt p xs i x within is before here =
    ap (list_any p) (take_more xs i x within ∙ ap (λ y. take i xs ++ y ∷ []) (sym is)) ∙ list_any-append p (take i xs) (x ∷ [])
    ∙ (rw (before, here) refl)

-- one that is found, of a list itself
pub is_found_at : {A : Type 0} (p : A → Bool) (xs : List A) (i : ℕ) (d : A) → i < length xs → p (get_or xs i d) ≡ true
    → list_any p xs ≡ true
is_found_at p [] i d l e = absurd (omega (arith, l))
is_found_at p (x ∷ xs) zero d l e = rw e refl
is_found_at p (x ∷ xs) (suc i) d l e = ap (λ b. p x || b) (is_found_at p xs i d (omega (arith, l)) e) ∙ or_true (p x)

-- and where one fails, not all pass
pub fails_at : {A X : Type 0} (p : X → Bool) (g : A → X) (xs : List A) (i : ℕ) (d : A) → i < length xs → p (g (get_or xs i d)) ≡ false
    → list_all p (map g xs) ≡ false
fails_at p g [] i d l e = absurd (omega (arith, l))
fails_at p g (x ∷ xs) zero d l e = rw e refl
fails_at p g (x ∷ xs) (suc i) d l e = ap (λ b. p (g x) && b) (fails_at p g xs i d (omega (arith, l)) e) ∙ and_false (p (g x))

-- what holds of each, mapped, holds of one
pub mapped_at : {A X : Type 0} (P : X → Type 0) (g : A → X) (xs : List A) (i : ℕ) (v d : A) → i < length xs → v ≡ get_or xs i d
    → AllByRecursion P (map g xs) → P (g v)
mapped_at P g [] i v d l e all = absurd (omega (arith, l))
mapped_at P g (x ∷ xs) zero v d l e all = subst (λ y. P (g y)) (sym e) all.0
mapped_at P g (x ∷ xs) (suc i) v d l e all = mapped_at P g xs i v d (omega (arith, l)) e all.1
