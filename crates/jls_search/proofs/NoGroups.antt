-- Where the search of all splices was not cut off and came to a file, no groups were searched, and its splices are all that were found: for
-- laws above.
use Rattle.std.proofs.Common.{◌≡◌, ℕ, true, false, List, [], ◌∷◌, ◌++◌, Option, Some, None, refl, ap, ◌∙◌, arith, ◌⊎◌, inl, inr}
use Rattle.std.specs.Prelude.{◌↔◌, IsSome}
use Rattle.std.specs.List.{Contains}
use Rattle.std.proofs.lemmas.List.{append-nil}
use Rattle.jls_diff.specs.Parts.{Part}
use Rattle.jls_search.specs.Search.{files_of}
use Rattle.jls_search.specs.Found.{ByGroups, Found, IsFound, choices_by, splices_in}

none_given : (by : Option ByGroups) → (IsSome by → ⊥) → choices_by by ≡ []
none_given None not_some = refl
none_given (Some b) not_some = absurd (not_some refl)

not_needed : (f : Found) → (IsSome f.by_groups ↔ ((f.is_used_up ≡ true) ⊎ (f.choices ≡ []))) → f.is_used_up ≡ false → (f.choices ≡ [] → ⊥)
    → IsSome f.by_groups → ⊥
not_needed f searched enough some is = elim (searched.0 is) [ inl e ↦ absurd cc | inr none ↦ some none ]

comes_to : (parts : List Part) (choices : List (List ℕ)) (file : List ℕ) → Contains (files_of parts choices) file → choices ≡ [] → ⊥
comes_to parts [] file (k, l, e) none = omega (arith, l)
comes_to parts (c ∷ choices) file among none = absurd cc

pub splices_of_all : (ceiling : Option ℕ) (copies : List (List ℕ)) (f : Found) (file : List ℕ) → IsFound ceiling copies f → f.is_used_up
    ≡ false
    → Contains (files_of f.parts f.choices) file → splices_in f ≡ files_of f.parts f.choices
splices_of_all ceiling copies f file is enough among =
    let none : choices_by f.by_groups ≡ [] =
    none_given f.by_groups (not_needed f is.searched enough (comes_to f.parts f.choices file among)) in
    ap (λ (more : List (List ℕ)). files_of f.parts (f.choices ++ more)) none ∙ ap (files_of f.parts) (append-nil f.choices)
