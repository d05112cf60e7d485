-- Lists, each of whose elements meets something, and of one more element.
use Rattle.std.proofs.Common.{ℕ, zero, suc, ◌<◌, List, [], ◌∷◌, length, sym, subst, arith}
use Rattle.std.specs.Prelude.{get_or}
use Rattle.std.specs.List.{AllByRecursion}
use Rattle.jls_diff.specs.Parts.{Part, Same, Differ, HasWays}
use Rattle.jls_search.specs.OfGroups.{HasCopy}

module _ {X : Type 0} (P : X → Type 0) where
  pub all_at : (xs : List X) (d : X) (i : ℕ) → i < length xs → AllByRecursion P xs → P (get_or xs i d)
  all_at [] d i l h = absurd (omega (arith, l))
  all_at (x ∷ xs) d zero l h = h.0
  all_at (x ∷ xs) d (suc i) l h = all_at xs d i (omega (arith, l)) h.1

-- each of so many copies has something at each part
pub has_copy : (count copy : ℕ) (ps : List Part) → copy < count → AllByRecursion (HasWays count) ps → AllByRecursion (HasCopy copy) ps
has_copy count copy [] l h = tt
has_copy count copy (Same bytes ∷ ps) l h = (tt, has_copy count copy ps l h.1)
has_copy count copy (Differ ways ∷ ps) l h = (subst (λ n. copy < n) (sym h.0) l, has_copy count copy ps l h.1)

pub copy_at : (copy : ℕ) (ps : List Part) (i : ℕ) → i < length ps → AllByRecursion (HasCopy copy) ps → HasCopy copy (get_or ps i (Same []))
copy_at copy ps i l h = all_at (HasCopy copy) ps (Same []) i l h
