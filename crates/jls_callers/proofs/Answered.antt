-- What is said of a call that answers so, and what follows.
use Rattle.std.proofs.Common.{◌≡◌, ℕ, List, Option, Some, Result, Ok, Err, OnOk, OnErr, IfOk, IfErr, subst}
use Rattle.std.specs.Prelude.{IfSome}
use Rattle.std.proofs.lemmas.Result.{IfErr-at_err}

module _ {T E : Type 0} where
  pub ok_both : (r : Result T E) (A B C : Type 0) → OnOk r A → OnOk r B → (A → B → C) → OnOk r C
  ok_both (Ok x) A B C a b f = f a b
  ok_both (Err e) A B C a b f = tt

  pub err_then : (r : Result T E) (A B : Type 0) → OnErr r A → (A → B) → OnErr r B
  err_then (Ok x) A B a f = tt
  err_then (Err e) A B a f = f a

  pub ok_then : (r : Result T E) (A B : T → Type 0) → IfOk r A → ((x : T) → A x → B x) → IfOk r B
  ok_then (Ok x) A B a f = f x a
  ok_then (Err e) A B a f = tt

  pub ok_with : (r : Result T E) (A B C : T → Type 0) → IfOk r A → IfOk r B → ((x : T) → A x → B x → C x) → IfOk r C
  ok_with (Ok x) A B C a b f = f x a b
  ok_with (Err e) A B C a b f = tt

  pub fault_then : (r : Result T E) (A B : E → Type 0) → IfErr r A → ((e : E) → A e → B e) → IfErr r B
  fault_then (Ok x) A B a f = tt
  fault_then (Err e) A B a f = f e a

  -- a fault that is answered of known bytes
  pub fault_at : (r : Result T E) (left : Option (List ℕ)) (Q : List ℕ → E → Type 0) (bytes : List ℕ) (f : E) → left ≡ Some bytes
      → r ≡ Err f → IfErr r (λ e. IfSome left (λ b. Q b e)) → Q bytes f
  fault_at r left Q bytes f is e h = subst (λ (o : Option (List ℕ)). IfSome o (λ b. Q b f)) is (IfErr-at_err _ e h)
