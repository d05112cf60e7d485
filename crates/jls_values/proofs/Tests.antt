-- Tests: what follows from one, and tests of which one says nothing new.
use Rattle.std.proofs.Common.{◌≡◌, Bool, true, false, ◌&&◌, ◌||◌, refl}
use Rattle.std.specs.declared.cmp.Ordering.{Ordering}
use Rattle.std.specs.declared.cmp.Ordering.TheVariants.{Less, Equal, Greater}
use Rattle.std.specs.Ordering.{is_eq}

-- an order in which the test for equality holds
pub tied : (r : Ordering) → is_eq r ≡ true → r ≡ Equal
tied Less e = absurd cc
tied Equal e = refl
tied Greater e = absurd cc

-- what follows from each of two tests follows from either
pub either : (P : Type 0) (b c : Bool) → (b ≡ true → P) → (c ≡ true → P) → (b || c) ≡ true → P
either P true c f g e = f refl
either P false c f g e = g e

-- a test that follows from another adds nothing to it
pub implied : (a b : Bool) → (b ≡ true → a ≡ true) → (a && b) ≡ b
implied true b f = refl
implied false true f = f refl
implied false false f = refl

-- a test once more adds nothing
pub absorbed : (a b : Bool) → (a || (a || b)) ≡ (a || b)
absorbed true b = refl
absorbed false b = refl

-- three tests, of which any holds
pub any_of_three : (a b c : Bool) → (a || (b || c)) ≡ ((a || b) || c)
any_of_three true b c = refl
any_of_three false b c = refl

-- one test with either of two others
pub with_either : (a b c : Bool) → ((a && b) || (a && c)) ≡ (a && (b || c))
with_either true b c = refl
with_either false b c = refl
