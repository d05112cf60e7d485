-- Numbers modulo RANGE: the error that is congruent to one, and that it is the only one.
use Rattle.std.proofs.Common.{◌≡◌, ℕ, ◌+◌, ◌-◌, ◌*◌, ◌/◌, ◌%◌, ◌<◌, true, false, refl, ap, sym, ◌∙◌, arith, inl, inr, ◌⊎◌}
use Rattle.std.specs.Prelude.{ℤ, pos, negsuc, ◌+ℤ◌, ◌-ℤ◌, neg_ℤ, ◌≤ℤ◌, ◌<ℤ◌, int_le}
use Rattle.std.specs.Int.{int_rem_euclid}
use Rattle.std.proofs.lemmas.Int.{ints, by_lt_z}
use Rattle.std.proofs.Math.Nat.{mod-eq_of_lt, mod-lt, add-mod_right}
use Rattle.jls_values.specs.Params.{CodingParameters, range}
use Rattle.jls_context.specs.Errors.{IsModuloReduced, modulo_reduced}

-- a remainder, for a number at most one modulus away
pub remainder_within : (r : ℕ) (z : ℤ) → pos 0 ≤ℤ z → z <ℤ pos r → int_rem_euclid z (pos r) ≡ z
remainder_within r (pos n) a b = ap pos (mod-eq_of_lt (omega (arith, ints)))
remainder_within r (negsuc n) a b = absurd (omega (arith, ints))

-- the remainder of a negative number, at most RANGE below 0
pub remainder_below : (r : ℕ) (z : ℤ) → neg_ℤ (pos r) ≤ℤ z → z <ℤ pos 0 → int_rem_euclid z (pos r) ≡ z +ℤ pos r
remainder_below r (pos n) a b = absurd (omega (arith, ints))
remainder_below r (negsuc n) a b =
    let small : n % r ≡ n = mod-eq_of_lt (omega (arith, ints)) in rw small (omega (arith, ints))

-- the remainder of a number from RANGE on and below twice RANGE
pub remainder_above : (r : ℕ) (z : ℤ) → pos r ≤ℤ z → z <ℤ pos (2 * r) → int_rem_euclid z (pos r) ≡ z -ℤ pos r
remainder_above r (pos n) a b =
    let split : n ≡ (n - r) + r = omega (arith, ints) in
    let small : n % r ≡ n - r = ap (λ m. m % r) split ∙ add-mod_right (n - r) r ∙ mod-eq_of_lt (omega (arith, ints)) in
    rw small (omega (arith, ints))
remainder_above r (negsuc n) a b = absurd (omega (arith, ints))

-- the remainder of a number at most RANGE away, in three cases
pub remainder_cases : (r : ℕ) (z : ℤ) → neg_ℤ (pos r) ≤ℤ z → z <ℤ pos (2 * r)
    → (int_rem_euclid z (pos r) ≡ z) ⊎ ((int_rem_euclid z (pos r) ≡ z +ℤ pos r) ⊎ (int_rem_euclid z (pos r) ≡ z -ℤ pos r))
remainder_cases r z a b =
    by_lt_z z (pos 0)
    (λ negative. inr (inl (remainder_below r z a negative)))
    (λ positive. by_lt_z z (pos r) (λ low. inl (remainder_within r z positive low)) (λ high. inr (inr (remainder_above r z high b))))

-- a remainder is below its modulus
remainder_range : (r : ℕ) → 0 < r → (z : ℤ) → (pos 0 ≤ℤ int_rem_euclid z (pos r)) × (int_rem_euclid z (pos r) <ℤ pos r)
remainder_range r some (pos n) = let below = mod-lt n some in (omega (arith, ints), omega (arith, ints))
remainder_range r some (negsuc n) = let below = mod-lt n some in (omega (arith, ints), omega (arith, ints))

-- the one case where RANGE is taken away, and the other
pub reduced_low : (p : CodingParameters) (z : ℤ) → int_rem_euclid z (pos (range p)) <ℤ pos ((range p + 1) / 2)
    → modulo_reduced p z ≡ int_rem_euclid z (pos (range p))
unfolding modulo_reduced
reduced_low p z h =
    let test : int_le (pos ((range p + 1) / 2)) (int_rem_euclid z (pos (range p))) ≡ false = grind (arith, ints) in rw test refl

pub reduced_high : (p : CodingParameters) (z : ℤ) → pos ((range p + 1) / 2) ≤ℤ int_rem_euclid z (pos (range p))
    → modulo_reduced p z ≡ int_rem_euclid z (pos (range p)) -ℤ pos (range p)
unfolding modulo_reduced
reduced_high p z h =
    let test : int_le (pos ((range p + 1) / 2)) (int_rem_euclid z (pos (range p))) ≡ true = grind (arith, ints) in rw test refl

-- the reduction is right for every number
pub modulo_reduced_is : (p : CodingParameters) (z : ℤ) → IsModuloReduced p z (modulo_reduced p z)
modulo_reduced_is p z =
    let r : ℤ = int_rem_euclid z (pos (range p)) in let within = remainder_range (range p) (omega arith) z in
    by_lt_z r (pos ((range p + 1) / 2))
    (λ low. rw (reduced_low p z low)
    (record {
      is_error = record { at_least = omega (arith, ints); below = low };
      congruent =
          sym (remainder_within (range p) r within.0 within.1);
    }))
    (λ high. rw (reduced_high p z high)
    (record {
      is_error = record { at_least = omega (arith, ints); below = omega (arith, ints) };
      congruent =
          sym (remainder_below (range p) (r -ℤ pos (range p)) (omega (arith, ints)) (omega (arith, ints)) ∙ omega (arith, ints));
    }))

-- what it adds to a difference of samples
pub modulo_reduced_near : (p : CodingParameters) (z : ℤ) → neg_ℤ (pos (range p)) <ℤ z → z <ℤ pos (range p)
    → (modulo_reduced p z ≡ z) ⊎ ((modulo_reduced p z ≡ z +ℤ pos (range p)) ⊎ (modulo_reduced p z ≡ z -ℤ pos (range p)))
modulo_reduced_near p z a b =
    let r : ℤ = int_rem_euclid z (pos (range p)) in
    by_lt_z z (pos 0)
    (λ negative. let is : r ≡ z +ℤ pos (range p) = remainder_below (range p) z (omega (arith, ints)) negative in
    by_lt_z r (pos ((range p + 1) / 2)) (λ low. inr (inl (reduced_low p z low ∙ is)))
    (λ high. let e = reduced_high p z high in inl (omega (arith, ints))))
    (λ positive. let is : r ≡ z = remainder_within (range p) z positive b in
    by_lt_z r (pos ((range p + 1) / 2)) (λ low. inl (reduced_low p z low ∙ is))
    (λ high. let e = reduced_high p z high in inr (inr (omega (arith, ints)))))
