-- What `map_err` leaves of a result: its value is the same, and its error is made of the first.
use Rattle.std.proofs.Common.{◌≡◌, Result, Ok, Err, ap, refl, sym, ◌∙◌, subst}
use Rattle.std.proofs.lemmas.Result.{IfOk-at_ok}
use Rattle.std.specs.Prelude.{IfOk, IfErr, IsErrAnd, MatchResult}

module _ {T E D : Type 0} (made : E → D → Type 0) where
  abbrev pub Mapped : Result T E → Result T D → Type 0
  Mapped r s = MatchResult r (λ x. s ≡ Ok x) (λ e. IsErrAnd s (made e))

  -- the value, if there is one
  pub value_so : (r : Result T E) (s : Result T D) (P Q : T → Type 0) → ((x : T) → P x → Q x) → Mapped r s → IfOk r P → IfOk s Q
  value_so (Ok x) s P Q so is p = subst (λ (t : Result T D). IfOk t Q) (sym is) (so x p)
  value_so (Err e) (Ok x) P Q so is p = absurd is
  value_so (Err e) (Err d) P Q so is p = tt

  -- a value that `map_err` left was there before
  pub value_at : (r : Result T E) (s : Result T D) (x : T) → Mapped r s → s ≡ Ok x → r ≡ Ok x
  value_at (Ok y) s x is at =
      let same = IfOk-at_ok (λ z. y ≡ z) at (subst (λ (t : Result T D). IfOk t (λ z. y ≡ z)) (sym is) refl) in
      ap (λ z. Ok z) same
  value_at (Err e) s x is at = absurd (subst (λ (t : Result T D). IsErrAnd t (made e)) at is)

  -- the error that is made, if there is one
  pub error_as : (r : Result T E) (s : Result T D) (P : E → Type 0) (Q : D → Type 0) → ((e : E) (d : D) → made e d → P e → Q d) → Mapped r s
      → IfErr r P → IfErr s Q
  error_as (Ok x) s P Q so is p = subst (λ (t : Result T D). IfErr t Q) (sym is) tt
  error_as (Err e) (Ok x) P Q so is p = absurd is
  error_as (Err e) (Err d) P Q so is p = so e d is p

  -- what is said of the error that another error makes, where each makes one
  module _ (f : E → D) (means : (e : E) (d : D) → made e d → d ≡ f e) where
    pub error_so : (r : Result T E) (s : Result T D) (P : E → Type 0) (Q : D → Type 0) → ((e : E) → P e → Q (f e)) → Mapped r s → IfErr r P
        → IfErr s Q
    error_so (Ok x) s P Q so is p = subst (λ (t : Result T D). IfErr t Q) (sym is) tt
    error_so (Err e) (Ok x) P Q so is p = absurd is
    error_so (Err e) (Err d) P Q so is p = subst Q (sym (means e d is)) (so e p)

    pub error_at : (r : Result T E) (s : Result T D) (d : D) → Mapped r s → s ≡ Err d → (e : E) × (d ≡ f e) × (r ≡ Err e)
    error_at (Ok y) s d is at = let e = sym is ∙ at in absurd cc
    error_at (Err e) s d is at = (e, means e d (subst (λ (t : Result T D). IsErrAnd t (made e)) at is), refl)
