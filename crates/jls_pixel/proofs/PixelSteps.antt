-- The samples round a pixel, component by component.
use Rattle.std.proofs.Common.{◌≡◌, ℕ, suc, ◌+◌, ◌-◌, ◌<◌, ◌≤◌, [], ◌∷◌, map, ap, arith}
use Rattle.std.specs.List.{range_with_len}

-- the components from one on: the first of them and the others
pub range_first : {X : Type 0} (f : ℕ → X) (k n : ℕ) → k < n
    → map f (range_with_len k (n - k)) ≡ f k ∷ map f (range_with_len (k + 1) (n - (k + 1)))
range_first f k n h = let e : n - k ≡ suc (n - (k + 1)) = omega arith in ap (λ z. map f (range_with_len k z)) e

-- none is left
pub range_none : {X : Type 0} (f : ℕ → X) (k n : ℕ) → n ≤ k → map f (range_with_len k (n - k)) ≡ []
range_none f k n h = let e : n - k ≡ 0 = omega arith in ap (λ z. map f (range_with_len k z)) e
