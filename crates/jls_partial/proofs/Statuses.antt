-- A line is settled if and only if it has one reading.
use Rattle.std.proofs.Common.{◌≡◌, ℕ, List, [], ◌∷◌, length, refl, arith}
use Rattle.jls_partial.specs.Status.{status_of}
use Rattle.jls_partial.specs.declared.status.Status.TheVariants.{Settled}

pub one_reading : (xs : List (List ℕ)) → status_of xs ≡ Settled → length xs ≡ 1
one_reading [] e = absurd cc
one_reading (x ∷ []) e = refl
one_reading (x ∷ y ∷ xs) e = absurd cc

pub settled_by : (xs : List (List ℕ)) → length xs ≡ 1 → status_of xs ≡ Settled
settled_by [] e = absurd (omega arith)
settled_by (x ∷ []) e = refl
settled_by (x ∷ y ∷ xs) e = absurd (omega arith)
