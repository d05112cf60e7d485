-- The first test that fails: what follows where none does, and which faults there can be.
use Rattle.std.proofs.Common.{◌≡◌, Bool, true, false, List, [], ◌∷◌, Result, Ok, Err, refl, sym, ap, ◌∙◌}
use Rattle.std.specs.List.{list_all}
use Rattle.std.proofs.lemmas.Bool.{and_parts}
use Rattle.jls_marker.specs.Faults.{first_failing}
use Rattle.jls_marker.specs.declared.fault.MarkerFault.{MarkerFault}

-- each test passes
abbrev pub Pass : List (Bool × MarkerFault) → Type 0
Pass [] = Unit {0}
Pass (test ∷ tests) = (test.0 ≡ true) × Pass tests

-- a result of a value
abbrev pub fine : {A : Type 0} → A → Result A MarkerFault
fine x = Ok x

pub fine_is : {A : Type 0} (x y : A) → fine x ≡ fine y → x ≡ y
fine_is x y e = cc

-- where the answer is a value, all tests passed, and it is that value
pub all_pass : {A : Type 0} (tests : List (Bool × MarkerFault)) (v w : A) → first_failing tests v ≡ Ok w → Pass tests × (v ≡ w)
all_pass [] v w e = (tt, fine_is v w e)
all_pass ((true, f) ∷ tests) v w e = let rest = all_pass tests v w e in ((refl, rest.0), rest.1)
all_pass ((false, f) ∷ tests) v w e = absurd cc

pub none_fails : {A : Type 0} (tests : List (Bool × MarkerFault)) (v : A) → Pass tests → first_failing tests v ≡ Ok v
none_fails [] v p = refl
none_fails ((true, f) ∷ tests) v p = none_fails tests v p.1
none_fails ((false, f) ∷ tests) v p = let e = p.0 in absurd cc

abbrev pub failed : {A : Type 0} → MarkerFault → Result A MarkerFault
failed f = Err f

fault_is : {A : Type 0} (f g : MarkerFault) → failed {A = A} f ≡ failed {A = A} g → f ≡ g
fault_is {A} f g e = cc

-- a fault is that of a test: what holds of the faults of all tests holds of it
pub a_listed_fault : {A : Type 0} (p : MarkerFault → Bool) (tests : List (Bool × MarkerFault)) (v : A) (f : MarkerFault)
    → list_all (λ t. p t.1) tests ≡ true → first_failing tests v ≡ Err f → p f ≡ true
a_listed_fault p [] v f all e = absurd cc
a_listed_fault p ((true, g) ∷ tests) v f all e = a_listed_fault p tests v f (and_parts (p g) (list_all (λ t. p t.1) tests) all).1 e
a_listed_fault {A} p ((false, g) ∷ tests) v f all e = sym (ap p (fault_is {A = A} g f e))
    ∙ (and_parts (p g) (list_all (λ t. p t.1) tests) all).0
