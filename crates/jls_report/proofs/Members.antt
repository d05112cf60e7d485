-- What stands in a list that is made number by number.
use Rattle.std.proofs.Common.{◌≡◌, ℕ, zero, suc, ◌+◌, ◌<◌, Bool, true, false, cond, List, [], ◌∷◌, refl, subst, arith, ◌⊎◌, inl, inr}
use Rattle.std.specs.Prelude.{Contains}
use Rattle.std.specs.List.{range_with_len, flat_map, slice_index_or}
use Rattle.std.proofs.lemmas.List.Elements.{Contains-append_left, Contains-append_right, Contains-append_cases}

-- a member stands at one of the numbers
pub found_over : {X : Type 0} (f : ℕ → List X) (a n : ℕ) (x : X) → Contains (flat_map f (range_with_len a n)) x
    → (k : ℕ) × (k < a + n) × Contains (f k) x
found_over f a zero x (k, below, is) = absurd (omega (arith, below))
found_over f a (suc n) x there =
    elim (Contains-append_cases (f a) (flat_map f (range_with_len (a + 1) n)) x there) [
      | inl here ↦ (a, omega arith, here)
      | inr later ↦ let found = found_over f (a + 1) n x later in let below : found.0 < a + suc n = omega (arith, found.1) in
          (found.0, below, found.2)
    ]

-- what stands at one of the numbers is a member
pub member_over : {X : Type 0} (f : ℕ → List X) (a n j : ℕ) (x : X) → j < n → Contains (f (a + j)) x
    → Contains (flat_map f (range_with_len a n)) x
member_over f a zero j x below here = absurd (omega arith)
member_over f a (suc n) zero x below here =
    Contains-append_left (f a) (flat_map f (range_with_len (a + 1) n)) x
    (let same : a + 0 ≡ a = omega arith in subst (λ k. Contains (f k) x) same here)
member_over f a (suc n) (suc j) x below here =
    Contains-append_right (f a) (flat_map f (range_with_len (a + 1) n)) x
    (member_over f (a + 1) n j x (omega arith) (let same : a + suc j ≡ a + 1 + j = omega arith in subst (λ k. Contains (f k) x) same here))

-- the only member of a list
pub only_member : {X : Type 0} (x e : X) → Contains (x ∷ []) e → x ≡ e
only_member x e (k, below, is) = let first : k ≡ 0 = omega (arith, below) in subst (λ i. slice_index_or (x ∷ []) i e ≡ e) first is

-- the member of a list that is one of two, or has none
pub one_of : {X : Type 0} (b d : Bool) (x y e : X) → Contains (cond b (x ∷ []) (cond d (y ∷ []) [])) e
    → ((b ≡ true) × (x ≡ e)) ⊎ ((b ≡ false) × (d ≡ true) × (y ≡ e))
one_of true d x y e there = inl (refl, only_member x e there)
one_of false true x y e there = inr (refl, refl, only_member y e there)
one_of false false x y e (k, below, is) = absurd (omega (arith, below))

pub first_of_two : {X : Type 0} (b d : Bool) (x y : X) → b ≡ true → Contains (cond b (x ∷ []) (cond d (y ∷ []) [])) x
first_of_two true d x y is = (0, omega arith, refl)
first_of_two false d x y is = absurd cc

-- the second of two is a member, where the first is not there
pub second_of_two : {X : Type 0} (b d : Bool) (x y : X) → b ≡ false → d ≡ true → Contains (cond b (x ∷ []) (cond d (y ∷ []) [])) y
second_of_two true d x y is also = absurd cc
second_of_two false true x y is also = (0, omega arith, refl)
second_of_two false false x y is also = absurd cc
