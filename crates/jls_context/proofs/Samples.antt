-- An error of a sample against its prediction gives the sample back.
use Rattle.std.proofs.Common.{◌≡◌, ℕ, ◌≤◌, Bool, true, false, arith, ◌⊎◌, inl, inr}
use Rattle.std.specs.Prelude.{ℤ, pos, ◌+ℤ◌, ◌-ℤ◌, neg_ℤ, unsigned_abs}
use Rattle.std.proofs.lemmas.Int.{ints}
use Rattle.std.specs.Int.{int_rem_euclid}
use Rattle.jls_values.specs.Params.{CodingParameters, range}
use Rattle.jls_context.specs.Mode.{with_sign}
use Rattle.jls_context.specs.Errors.{IsError, prediction_error}
use Rattle.jls_context.proofs.Remainders.{modulo_reduced_is, modulo_reduced_near, remainder_cases}

pub error_range : (p : CodingParameters) (negative : Bool) (sample prediction : ℕ)
    → IsError p (prediction_error p negative sample prediction)
error_range p negative sample prediction = (modulo_reduced_is p (with_sign negative (pos sample -ℤ pos prediction))).is_error

-- an error has one sample
pub sample_same : (p : CodingParameters) (negative : Bool) (s s' x : ℕ) → s ≤ p.maxval → s' ≤ p.maxval → x ≤ p.maxval
    → prediction_error p negative s x ≡ prediction_error p negative s' x → s ≡ s'
sample_same p true s s' x a b c e =
    let r = modulo_reduced_near p (neg_ℤ (pos s -ℤ pos x)) (omega (arith, ints)) (omega (arith, ints)) in
    let r' = modulo_reduced_near p (neg_ℤ (pos s' -ℤ pos x)) (omega (arith, ints)) (omega (arith, ints)) in omega (arith, ints)
sample_same p false s s' x a b c e =
    let r = modulo_reduced_near p (pos s -ℤ pos x) (omega (arith, ints)) (omega (arith, ints)) in
    let r' = modulo_reduced_near p (pos s' -ℤ pos x) (omega (arith, ints)) (omega (arith, ints)) in omega (arith, ints)

-- the sample that an error leads to, brought back into the range, has this error
pub restored : (p : CodingParameters) (negative : Bool) (s x : ℕ) (e f : ℤ) → s ≤ p.maxval → x ≤ p.maxval → IsError p e
    → f ≡ with_sign negative e
    → (pos s ≡ pos x +ℤ f) ⊎ ((pos s ≡ (pos x +ℤ f) +ℤ pos (range p)) ⊎ (pos s ≡ (pos x +ℤ f) -ℤ pos (range p)))
    → prediction_error p negative s x ≡ e
restored p true s x e f a b i g h =
    let r = modulo_reduced_near p (neg_ℤ (pos s -ℤ pos x)) (omega (arith, ints)) (omega (arith, ints)) in
    let v = error_range p true s x in omega (arith, ints)
restored p false s x e f a b i g h =
    let r = modulo_reduced_near p (pos s -ℤ pos x) (omega (arith, ints)) (omega (arith, ints)) in
    let v = error_range p false s x in omega (arith, ints)

-- the sample that is the prediction plus the signed error, modulo RANGE, has this error against the prediction
pub restored_remainder : (p : CodingParameters) (negative : Bool) (s x : ℕ) (e f z : ℤ) → s ≤ p.maxval → x ≤ p.maxval → IsError p e
    → f ≡ with_sign negative e
    → z ≡ pos x +ℤ f → pos s ≡ int_rem_euclid z (pos (range p)) → prediction_error p negative s x ≡ e
restored_remainder p negative s x e f z a b i sign sum is =
    let size : unsigned_abs f ≤ p.maxval = size_of negative f sign in
    restored p negative s x e f a b i sign
    (elim (remainder_cases (range p) z (omega (arith, ints)) (omega (arith, ints))) [
      | inl h ↦ inl (omega (arith, ints))
      | inr h ↦
          elim h [ inl k ↦ inr (inl (omega (arith, ints))) | inr k ↦ inr (inr (omega (arith, ints))) ]
    ])
  where
    size_of : (negative : Bool) (f : ℤ) → f ≡ with_sign negative e → unsigned_abs f ≤ p.maxval
    size_of true f sign = omega (arith, ints)
    size_of false f sign = omega (arith, ints)
