-- Ceilings that are kept.
use Rattle.std.proofs.Common.{◌≡◌, ℕ, false, Option, Some, None, inl, inr, refl, sym, ◌∙◌}
use Rattle.std.specs.Prelude.{◌⊎◌, is_some}
use Rattle.jls_splice_run.specs.Ceilings.{KeepsCeiling}

-- the ceiling that is given is kept
pub keeps_own : (given : Option ℕ) → KeepsCeiling given given
keeps_own None = tt
keeps_own (Some ceiling) = refl

-- where none is given, each is
pub keeps_any : (given ceiling : Option ℕ) → is_some given ≡ false → KeepsCeiling given ceiling
keeps_any None ceiling e = tt
keeps_any (Some n) ceiling e = absurd cc

-- so is another in place of one that is kept, if that is the same, or is none
pub keeps_on : (given ceiling other : Option ℕ) → KeepsCeiling given ceiling → (other ≡ ceiling) ⊎ (ceiling ≡ None) → KeepsCeiling given other
keeps_on None ceiling other h e = tt
keeps_on (Some n) ceiling other h (inl same) = same ∙ h
keeps_on (Some n) ceiling other h (inr none) = let e : None ≡ Some n = sym none ∙ h in absurd cc
