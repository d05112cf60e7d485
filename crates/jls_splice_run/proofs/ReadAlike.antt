-- What a mended file reads as.
use Rattle.std.proofs.Common.{◌≡◌, ℕ, ◌+◌, ◌<◌, List, [], ◌∷◌, Some, length, sym, subst}
use Rattle.std.specs.Prelude.{slice_get}
use Rattle.std.specs.Prelude.{◌≤◌}
use Rattle.std.proofs.Common.{arith, inl, inr}
use Rattle.std.proofs.Math.Nat.{eq-or-lt_of_le}

-- the only element
pub alone : (xs : List (List ℕ)) (x : List ℕ) → length xs ≡ 1 → slice_get xs 0 ≡ Some x → xs ≡ x ∷ []
alone [] x one first = absurd cc
alone (y ∷ []) x one first = cc
alone (y ∷ z ∷ ys) x one first = absurd cc

-- what holds of each number below one, and of that one, holds of each below the next
pub one_more : (P : ℕ → Type 0) (n : ℕ) → ((k : ℕ) → k < n → P k) → P n → (k : ℕ) → k < n + 1 → P k
one_more P n before here k l =
    let le : k ≤ n = omega (arith, l) in
    elim (eq-or-lt_of_le le) [
      | inl same ↦ subst P (sym same) here
      | inr less ↦ before k less
    ]
