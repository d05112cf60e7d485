-- The first number that passes.
use Rattle.std.proofs.Common.{ℕ, zero, suc, ◌+◌, ◌≤◌, Bool, arith, inl, inr}
use Rattle.std.proofs.lemmas.Bool.{cases_Bool}
use Rattle.jls_values.specs.Params.{least_from}

-- the number that a search finds lies in its range, or at its end
pub least_low : (passes : ℕ → Bool) (fuel from : ℕ) → least_from passes fuel from ≤ from + fuel
unfolding least_from
least_low passes zero from = omega arith
least_low passes (suc fuel) from =
    elim (cases_Bool (passes from)) [ inl e ↦ rw e (omega arith) | inr e ↦ rw e (let r = least_low passes fuel (suc from) in omega arith) ]
