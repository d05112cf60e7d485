-- Lists: their members, what holds of each of them, and what one number or piece more adds.
use Rattle.std.proofs.Common.{◌≡◌, ℕ, zero, suc, ◌+◌, ◌-◌, ◌<◌, ◌≤◌, List, [], ◌∷◌, ◌++◌, length, map, refl, sym, ap, ◌∙◌, subst}
use Rattle.std.proofs.Common.{append_assoc, arith, ◌⊎◌, inl, inr}
use Rattle.std.proofs.Common.{add-one, add-zero}
use Rattle.std.specs.Prelude.{get_or}
use Rattle.std.specs.List.{All, AllByRecursion, Contains, flat_map, range_with_len}
use Rattle.std.proofs.lemmas.Grind.{flat_map-append}
use Rattle.std.proofs.lemmas.List.{append-nil, length-map, get_or-map}
use Rattle.std.proofs.lemmas.List.Elements.{All-from_recursion, Contains-append_left, Contains-append_right, Contains-append_cases}

-- Members ----------------------------------------------------------------------------------------------------------

module _ {X : Type 0} where
  pub is_first : (x : X) (xs : List X) → Contains (x ∷ xs) x
  is_first x xs = (0, omega arith, refl)

  pub in_rest : (x y : X) (xs : List X) → Contains xs x → Contains (y ∷ xs) x
  in_rest x y xs (k, l, e) = (suc k, omega (arith, l), e)

  pub none_in : (x : X) → Contains [] x → ⊥
  none_in x (k, l, e) = omega (arith, l)

  pub first_or_rest : (x y : X) (xs : List X) → Contains (y ∷ xs) x → (y ≡ x) ⊎ Contains xs x
  first_or_rest x y xs (zero, l, e) = inl e
  first_or_rest x y xs (suc k, l, e) = inr (k, omega (arith, l), e)

  -- a list with an item is not empty
  pub not_empty : (xs : List X) (y : X) (ys : List X) → xs ++ y ∷ ys ≡ [] → ⊥
  not_empty [] y ys e = cc
  not_empty (x ∷ xs) y ys e = cc

-- members of images and of joined lists
pub in_map : {X Y : Type 0} (f : X → Y) (xs : List X) (x : X) → Contains xs x → Contains (map f xs) (f x)
in_map f xs x c = (c.0, omega (arith, length-map xs f, c.1), get_or-map f xs c.0 x (f x) c.1 ∙ ap f c.2)

-- a member of a mapped list is what some member is mapped to
pub of_map : {X Y : Type 0} (f : X → Y) (xs : List X) (y : Y) → Contains (map f xs) y → (x : X) × Contains xs x × (f x ≡ y)
of_map f [] y c = absurd (none_in y c)
of_map f (x ∷ xs) y c =
    elim (first_or_rest y (f x) (map f xs) c) [
      | inl e ↦ (x, is_first x xs, e)
      | inr later ↦ (let from = of_map f xs y later in (from.0, in_rest from.0 x xs from.1, from.2))
    ]

-- a member of what a member makes is one of all that they make
pub in_flat_map : {X Y : Type 0} (f : X → List Y) (xs : List X) (x : X) (y : Y) → Contains xs x → Contains (f x) y
    → Contains (flat_map f xs) y
in_flat_map f [] x y c d = absurd (none_in x c)
in_flat_map f (z ∷ zs) x y (zero, l, e) d = Contains-append_left (f z) (flat_map f zs) y (subst (λ v. Contains (f v) y) (sym e) d)
in_flat_map f (z ∷ zs) x y (suc k, l, e) d = Contains-append_right (f z) (flat_map f zs) y (in_flat_map f zs x y (k, omega (arith, l), e) d)

-- a member of a list that is made of lists is one of the list that some member makes
pub of_flat_map : {X Y : Type 0} (f : X → List Y) (xs : List X) (y : Y) → Contains (flat_map f xs) y → (x : X) × Contains xs x
    × Contains (f x) y
of_flat_map f [] y c = absurd (none_in y c)
of_flat_map f (x ∷ xs) y c =
    elim (Contains-append_cases (f x) (flat_map f xs) y c) [
      | inl here ↦ (x, is_first x xs, here)
      | inr later ↦ (let r = of_flat_map f xs y later in (r.0, in_rest r.0 x xs r.1, r.2))
    ]

-- First items -------------------------------------------------------------------------------------------------------

module _ {X : Type 0} where
  -- a list is its first n items, and the others
  pub first_items : (n : ℕ) (xs : List X) → n ≤ length xs
      → (prefix : List X) × (back : List X) × (xs ≡ prefix ++ back) × (length prefix ≡ n)
  first_items zero xs h = ([], xs, refl, refl)
  first_items (suc n) [] h = absurd (omega (arith, h))
  first_items (suc n) (x ∷ xs) h = let r = first_items n xs (omega (arith, h)) in (x ∷ r.0, r.1, ap (λ z. x ∷ z) r.2, ap suc r.3)

  -- of two beginnings of one list, the longer one begins with the other
  pub longer_begins : (a c s t : List X) → a ++ s ≡ c ++ t → length c ≤ length a → (x : List X) × (a ≡ c ++ x) × (x ++ s ≡ t)
  longer_begins a [] s t e l = (a, refl, e)
  longer_begins [] (y ∷ c) s t e l = absurd (omega (arith, l))
  longer_begins (x ∷ a) (y ∷ c) s t e l =
      let h : x ≡ y = cc in let r = longer_begins a c s t (cc) (omega (arith, l)) in (r.0, (let q = r.1 in cc), r.2)

  -- two beginnings of one list that are as long are one
  pub same_begin : (a c s t : List X) → a ++ s ≡ c ++ t → length a ≡ length c → (a ≡ c) × (s ≡ t)
  same_begin [] [] s t e l = (refl, e)
  same_begin [] (y ∷ c) s t e l = absurd (omega (arith, l))
  same_begin (x ∷ a) [] s t e l = absurd (omega (arith, l))
  same_begin (x ∷ a) (y ∷ c) s t e l =
      let h : x ≡ y = cc in let r = same_begin a c s t (cc) (omega (arith, l)) in let r0 = r.0 in (cc, r.1)

-- What holds of each -----------------------------------------------------------------------------------------------

module _ {X : Type 0} where
  -- what holds of all holds of each
  pub all_at : (P : X → Type 0) (xs : List X) (x : X) → AllByRecursion P xs → Contains xs x → P x
  all_at P [] x h c = absurd (none_in x c)
  all_at P (y ∷ ys) x h (zero, l, e) = subst P e h.0
  all_at P (y ∷ ys) x h (suc k, l, e) = all_at P ys x h.1 (k, omega (arith, l), e)

  pub all_get : (P : X → Type 0) (xs : List X) (k : ℕ) (d : X) → k < length xs → AllByRecursion P xs → P (get_or xs k d)
  all_get P [] k d l h = absurd (omega (arith, l))
  all_get P (x ∷ xs) zero d l h = h.0
  all_get P (x ∷ xs) (suc k) d l h = all_get P xs k d (omega (arith, l)) h.1

  pub all_append : (P : X → Type 0) (xs ys : List X) → AllByRecursion P xs → AllByRecursion P ys → AllByRecursion P (xs ++ ys)
  all_append P [] ys h k = k
  all_append P (x ∷ xs) ys h k = (h.0, all_append P xs ys h.1 k)

  pub all_prefix : (P : X → Type 0) (xs ys : List X) → AllByRecursion P (xs ++ ys) → AllByRecursion P xs
  all_prefix P [] ys h = tt
  all_prefix P (x ∷ xs) ys h = (h.0, all_prefix P xs ys h.1)

  pub all_more : (P : X → Type 0) (xs : List X) (x : X) → AllByRecursion P xs → P x → AllByRecursion P (xs ++ x ∷ [])
  all_more P [] x h p = (p, tt)
  all_more P (y ∷ ys) x h p = (h.0, all_more P ys x h.1 p)

  pub all_weaker : (P Q : X → Type 0) (xs : List X) → ((x : X) → P x → Q x) → AllByRecursion P xs → AllByRecursion Q xs
  all_weaker P Q [] f h = tt
  all_weaker P Q (x ∷ xs) f h = (f x h.0, all_weaker P Q xs f h.1)

-- bytes, each of which is one
pub all_bytes : (xs : List ℕ) → ((k : ℕ) → get_or xs k 0 < 256) → AllByRecursion (λ b. b < 256) xs
all_bytes [] h = tt
all_bytes (x ∷ xs) h = (h 0, all_bytes xs (λ k. h (suc k)))

-- numbers below another are at most the one before it
pub all_at_most : (n : ℕ) (xs : List ℕ) → AllByRecursion (λ x. x < n) xs → All (λ x. x ≤ n - 1) xs
all_at_most n xs all = λ k d below. let less = All-from_recursion (λ x. x < n) xs all k d below in omega (arith, less)

-- One more ---------------------------------------------------------------------------------------------------------

-- a range and one number more
range-suc : (a n : ℕ) → range_with_len a (suc n) ≡ range_with_len a n ++ (a + n) ∷ []
range-suc a zero = ap (λ k. k ∷ []) (sym (add-zero a))
range-suc a (suc n) =
    let same : a + 1 + n ≡ a + suc n = omega arith in
    ap (λ t. a ∷ t) (range-suc (a + 1) n) ∙ ap (λ k. a ∷ (range_with_len (a + 1) n ++ k ∷ [])) same

pub range_more : (a n : ℕ) → range_with_len a (n + 1) ≡ range_with_len a n ++ (a + n) ∷ []
range_more a n = ap (range_with_len a) (add-one n) ∙ range-suc a n

pub from_zero : (n : ℕ) → range_with_len 0 (n + 1) ≡ range_with_len 0 n ++ n ∷ []
from_zero n = let same : 0 + n ≡ n = omega arith in range_more 0 n ∙ ap (λ k. range_with_len 0 n ++ k ∷ []) same

pub flat_map_more : {X : Type 0} (f : ℕ → List X) (n : ℕ) → flat_map f (range_with_len 0 (n + 1)) ≡ flat_map f (range_with_len 0 n) ++ f n
flat_map_more f n = ap (flat_map f) (from_zero n) ∙ flat_map-append f (range_with_len 0 n) (n ∷ [])
    ∙ ap (λ t. flat_map f (range_with_len 0 n) ++ t) (append-nil (f n))

-- two pieces appended, one after the other
pub appended : (out a b x y : List ℕ) → x ≡ out ++ a → y ≡ x ++ b → y ≡ out ++ (a ++ b)
appended out a b x y first second = second ∙ ap (λ t. t ++ b) first ∙ append_assoc out a b
