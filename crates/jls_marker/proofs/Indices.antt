-- The index of an identifier among identifiers that differ.
use Rattle.std.proofs.Common.{◌≡◌, ℕ, zero, suc, ◌+◌, ◌<◌, true, false, List, [], ◌∷◌, length, refl, sym, ◌∙◌, ap, arith, inl, inr}
use Rattle.std.specs.Prelude.{◌==◌, get_or}
use Rattle.std.specs.List.{list_any}
use Rattle.std.proofs.lemmas.Bool.{cases_eq, false≢true, ne_eqb, or_parts}
use Rattle.std.proofs.lemmas.Bool.Decides.{nat_tests}
use Rattle.std.proofs.lemmas.List.Folds.{list_any_at}
use Rattle.jls_values.specs.Shape.{has_repeat}
use Rattle.jls_marker.specs.ComponentIndex.{index_of}

-- an identifier that no other equals differs from each of them
none_at : (id : ℕ) (ids : List ℕ) (i : ℕ) → list_any (λ other. other == id) ids ≡ false → i < length ids → (id == get_or ids i 0) ≡ false
none_at id ids i none below =
    elim (cases_eq (get_or ids i 0) id) [
      | inl e ↦
          let same : (get_or ids i 0 == id) ≡ true = grind (arith, nat_tests, e) in
          absurd (false≢true (sym none ∙ list_any_at (λ other. other == id) ids i 0 below same))
      | inr differs ↦ ne_eqb id (get_or ids i 0) (λ e. differs (sym e))
    ]

-- where identifiers differ, the index of a component's identifier is the component
pub index_again : (ids : List ℕ) (c : ℕ) → has_repeat ids ≡ false → c < length ids → index_of ids (get_or ids c 0) ≡ c
unfolding index_of
index_again [] c differ below = absurd (omega (arith, below))
index_again (id ∷ ids) zero differ below = let same : (id == id) ≡ true = grind (arith, nat_tests) in rw same refl
index_again (id ∷ ids) (suc c) differ below =
    let parts = or_parts (list_any (λ other. other == id) ids) (has_repeat ids) differ in
    let other = none_at id ids c parts.0 (omega (arith, below)) in
    let next : 1 + c ≡ suc c = omega arith in
    rw other (ap (λ n. 1 + n) (index_again ids c parts.1 (omega (arith, below))) ∙ next)
