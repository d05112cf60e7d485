-- Lines in a list of slices.
use Rattle.std.proofs.Common.{ℕ, zero, suc, ◌<◌, List, [], ◌∷◌, length, get_or, map, arith}
use Rattle.std.specs.List.{AllByRecursion}

-- what holds of each line holds of the one at an index
pub mapped_at : {A : Type 0} → (P : List ℕ → Type 0) (f : A → List ℕ) (xs : List A) (i : ℕ) (d : A) → i < length xs
    → AllByRecursion P (map f xs) → P (f (get_or xs i d))
mapped_at P f [] i d l h = absurd (omega arith)
mapped_at P f (x ∷ xs) zero d l h = h.0
mapped_at P f (x ∷ xs) (suc i) d l h = mapped_at P f xs i d (omega arith) h.1
