-- Mapped numbers give their errors back.
use Rattle.std.proofs.Common.{◌≡◌, ℕ, zero, suc, ◌-◌, ◌*◌, ◌≤◌, Bool, true, false, cond, ltb, refl, ap, arith}
use Rattle.std.specs.Prelude.{ℤ, pos, negsuc}
use Rattle.std.proofs.lemmas.Int.{ints}
use Rattle.std.proofs.lemmas.Bool.{lt-ltb}
use Rattle.jls_context.specs.Errors.{error_mapped}
use Rattle.jls_context.specs.Interruption.{mapped_by_sign}

-- in regular mode
pub mapped_same : (turned : Bool) (e f : ℤ) → error_mapped turned e ≡ error_mapped turned f → e ≡ f
mapped_same true (pos e) (pos f) h = omega (arith, ints)
mapped_same true (pos e) (negsuc f) h = absurd (omega arith)
mapped_same true (negsuc e) (pos f) h = absurd (omega arith)
mapped_same true (negsuc e) (negsuc f) h = omega (arith, ints)
mapped_same false (pos e) (pos f) h = omega (arith, ints)
mapped_same false (pos e) (negsuc f) h = absurd (omega arith)
mapped_same false (negsuc e) (pos f) h = absurd (omega arith)
mapped_same false (negsuc e) (negsuc f) h = omega (arith, ints)

-- of samples that interrupt a run
em_pos : (same t : Bool) (f : ℕ) → mapped_by_sign same t (pos (suc f)) ≡ 2 * suc f - cond same 1 0 - cond t 1 0
em_pos same t f = let u : ltb 0 (suc f) ≡ true = lt-ltb 0 (suc f) (omega arith) in rw u refl

em_neg : (same t : Bool) (f : ℕ) → mapped_by_sign same t (negsuc f) ≡ 2 * suc f - cond same 1 0 - (1 - cond t 1 0)
em_neg same true f = omega arith
em_neg same false f = omega arith

at_most_one : (b : Bool) → cond b 1 0 ≤ 1
at_most_one true = omega arith
at_most_one false = omega arith

none_of : (b : Bool) → (b ≡ true → ⊥) → cond b 1 0 ≤ 0
none_of true h = absurd (h refl)
none_of false h = omega arith

-- where the map turns for errors above 0, it doesn't for those below
pub interruption_mapped_same : (same t : Bool) (e f : ℤ) → (same ≡ true → (e ≡ pos 0 → ⊥) × (f ≡ pos 0 → ⊥))
    → mapped_by_sign same t e ≡ mapped_by_sign same t f → e ≡ f
interruption_mapped_same same t (pos zero) (pos zero) h g = refl
interruption_mapped_same same t (pos zero) (pos (suc f)) h g =
    absurd (omega (arith, em_pos same t f, none_of same (λ i. (h i).0 refl), at_most_one t))
interruption_mapped_same same t (pos zero) (negsuc f) h g =
    absurd (omega (arith, em_neg same t f, none_of same (λ i. (h i).0 refl), at_most_one t))
interruption_mapped_same same t (pos (suc e)) (pos zero) h g =
    absurd (omega (arith, em_pos same t e, none_of same (λ i. (h i).1 refl), at_most_one t))
interruption_mapped_same same t (pos (suc e)) (pos (suc f)) h g =
    ap pos (omega (arith, em_pos same t e, em_pos same t f, at_most_one same, at_most_one t))
interruption_mapped_same same t (pos (suc e)) (negsuc f) h g =
    absurd (omega (arith, em_pos same t e, em_neg same t f, at_most_one same, at_most_one t))
interruption_mapped_same same t (negsuc e) (pos zero) h g =
    absurd (omega (arith, em_neg same t e, none_of same (λ i. (h i).1 refl), at_most_one t))
interruption_mapped_same same t (negsuc e) (pos (suc f)) h g =
    absurd (omega (arith, em_neg same t e, em_pos same t f, at_most_one same, at_most_one t))
interruption_mapped_same same t (negsuc e) (negsuc f) h g =
    ap negsuc (omega (arith, em_neg same t e, em_neg same t f, at_most_one same, at_most_one t))
