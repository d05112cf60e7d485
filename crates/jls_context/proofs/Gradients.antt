-- Quantized gradients: their range, and what their weighed sum says of SIGN and the context.
use Rattle.std.proofs.Common.{◌≡◌, ℕ, zero, suc, ◌+◌, ◌-◌, ◌<◌, ◌≤◌, Bool, true, false, eqb, ltb, leb, [], ◌∷◌, refl, ap, sym, ◌∙◌, arith}
use Rattle.std.proofs.Common.{inl, inr}
use Rattle.std.specs.Prelude.{ℤ, pos, negsuc, ◌-ℤ◌, neg_ℤ, ◌≤ℤ◌, ◌<ℤ◌, unsigned_abs, int_lt}
use Rattle.std.proofs.lemmas.Int.{ints}
use mir.Val.{bool_byte}
use Rattle.std.proofs.lemmas.Bool.{cases_Bool, cases_lt, eq-eqb, eqb-true, ne_eqb, le-leb, lt-leb, lt-ltb, le-ltb, false≢true}
use Rattle.jls_values.specs.Params.{CodingParameters, AreCodingParameters}
use Rattle.jls_context.specs.declared.mode.Neighbours.{Neighbours}
use Rattle.jls_context.specs.Mode.{with_sign, is_run_mode, quantized_size, quantized_gradient, quantized_gradients, is_first_negative}
use Rattle.jls_context.specs.Mode.{is_negative, weighed, context, IsRegularMode, IsQuantizedGradient, AreGradients}

-- a gradient downwards is quantized by its size, with the sign turned
pub gradient_below : (p : CodingParameters) (to from : ℕ) → to < from
    → quantized_gradient p (pos to -ℤ pos from) ≡ neg_ℤ (pos (quantized_size p (from - to)))
unfolding quantized_gradient
gradient_below p to from h =
    let negative : int_lt (pos to -ℤ pos from) (pos 0) ≡ true = grind (arith, ints) in
    let size : unsigned_abs (pos to -ℤ pos from) ≡ from - to = omega (arith, ints) in rw (negative, size) refl

-- a gradient upwards, or of 0, is quantized by its size
pub gradient_above : (p : CodingParameters) (to from : ℕ) → from ≤ to
    → quantized_gradient p (pos to -ℤ pos from) ≡ pos (quantized_size p (to - from))
unfolding quantized_gradient
gradient_above p to from h =
    let negative : int_lt (pos to -ℤ pos from) (pos 0) ≡ false = grind (arith, ints) in
    let size : unsigned_abs (pos to -ℤ pos from) ≡ to - from = omega (arith, ints) in rw (negative, size) refl

-- five steps
pub size_range : (p : CodingParameters) (n : ℕ) → quantized_size p n ≤ 4
size_range p n =
    elim (cases_Bool (eqb n 0)) [
      | inl e ↦ rw e (omega arith)
      | inr e ↦ elim (cases_Bool (ltb n p.t1)) [
        | inl f ↦ rw (e, f) (omega arith)
        | inr f ↦ elim (cases_Bool (ltb n p.t2)) [
          | inl g ↦ rw (e, f, g) (omega arith)
          | inr g ↦ elim (cases_Bool (ltb n p.t3)) [ inl h ↦ rw (e, f, g, h) (omega arith) | inr h ↦ rw (e, f, g, h) (omega arith) ]
        ]
      ]
    ]

-- the five steps counted: one for each bound that the size reaches
steps_reached : (p : CodingParameters) (n : ℕ) → AreCodingParameters p
    → bool_byte (leb 1 n) + bool_byte (leb p.t1 n) + bool_byte (leb p.t2 n) + bool_byte (leb p.t3 n) ≡ quantized_size p n
steps_reached p n are =
    elim (cases_lt 0 n) [
      | inr z ↦ (let e = eq-eqb n 0 (omega arith) in let a = lt-leb 1 n (omega arith) in let b = lt-leb p.t1 n (omega arith) in
          let c = lt-leb p.t2 n (omega arith) in let d = lt-leb p.t3 n (omega arith) in rw (e, a, b, c, d) refl)
      | inl s ↦ (let e = ne_eqb n 0 (λ h. omega arith) in let a = le-leb 1 n (omega arith) in elim (cases_lt n p.t1) [
        | inl f ↦ (let b = lt-leb p.t1 n f in let c = lt-leb p.t2 n (omega arith) in let d = lt-leb p.t3 n (omega arith) in
            let x = lt-ltb n p.t1 f in rw (e, a, b, c, d, x) refl)
        | inr f ↦ (let b = le-leb p.t1 n f in let x = le-ltb n p.t1 f in elim (cases_lt n p.t2) [
          | inl g ↦ (let c = lt-leb p.t2 n g in let d = lt-leb p.t3 n (omega arith) in let y = lt-ltb n p.t2 g in
              rw (e, a, b, c, d, x, y) refl)
          | inr g ↦ (let c = le-leb p.t2 n g in let y = le-ltb n p.t2 g in elim (cases_lt n p.t3) [
            | inl h ↦ (let d = lt-leb p.t3 n h in let z = lt-ltb n p.t3 h in rw (e, a, b, c, d, x, y, z) refl)
            | inr h ↦ (let d = le-leb p.t3 n h in let z = le-ltb n p.t3 h in rw (e, a, b, c, d, x, y, z) refl)
          ])
        ])
      ])
    ]

pub steps_counted : (p : CodingParameters) (n a b c : ℕ) → AreCodingParameters p → a ≡ p.t1 → b ≡ p.t2 → c ≡ p.t3
    → bool_byte (leb 1 n) + bool_byte (leb a n) + bool_byte (leb b n) + bool_byte (leb c n) ≡ quantized_size p n
steps_counted p n a b c are d e f = rw (d, e, f) (steps_reached p n are)

-- only 0 has the size 0
size_zero : (p : CodingParameters) (n : ℕ) → 0 < n → quantized_size p n ≡ 0 → ⊥
size_zero p n some =
    let e : eqb n 0 ≡ false = ne_eqb n 0 (λ h. omega arith) in
    elim (cases_Bool (ltb n p.t1)) [
      | inl f ↦ rw (e, f) (λ z. omega arith)
      | inr f ↦ elim (cases_Bool (ltb n p.t2)) [
        | inl g ↦ rw (e, f, g) (λ z. omega arith)
        | inr g ↦ elim (cases_Bool (ltb n p.t3)) [ inl h ↦ rw (e, f, g, h) (λ z. omega arith) | inr h ↦ rw (e, f, g, h) (λ z. omega arith) ]
      ]
    ]

-- nine steps
pub gradient_range : (p : CodingParameters) (z : ℤ) → IsQuantizedGradient (quantized_gradient p z)
unfolding quantized_gradient
gradient_range p z =
    let small = size_range p (unsigned_abs z) in
    elim (cases_Bool (int_lt z (pos 0))) [
      | inl e ↦ rw e (record { at_least = omega (arith, ints); at_most = omega (arith, ints) })
      | inr e ↦
          rw e (record { at_least = omega (arith, ints); at_most = omega (arith, ints) })
    ]

-- only the gradient 0 is quantized to 0
pub gradient_zero : (p : CodingParameters) (z : ℤ) → quantized_gradient p z ≡ pos 0 → z ≡ pos 0
unfolding quantized_gradient
gradient_zero p z h =
    let size : quantized_size p (unsigned_abs z) ≡ 0 =
    elim (cases_Bool (int_lt z (pos 0)))
    [ inl e ↦ (let k = rw e at h in omega (arith, ints)) | inr e ↦ (let k = rw e at h in omega (arith, ints)) ] in
    elim (cases_lt 0 (unsigned_abs z)) [ inl some ↦ absurd (size_zero p (unsigned_abs z) some size) | inr none ↦ omega (arith, ints) ]

-- the first other than 0 decides the sum's sign, since 9 * 4 + 4 is less than 81
pub sign_is : (q1 q2 q3 : ℤ) → IsQuantizedGradient q1 → IsQuantizedGradient q2 → IsQuantizedGradient q3
    → is_first_negative (q1 ∷ q2 ∷ q3 ∷ []) ≡ int_lt (weighed q1 q2 q3) (pos 0)
sign_is (negsuc n) q2 q3 a b c = let e : int_lt (weighed (negsuc n) q2 q3) (pos 0) ≡ true = grind (arith, ints) in sym e
sign_is (pos (suc n)) q2 q3 a b c = let e : int_lt (weighed (pos (suc n)) q2 q3) (pos 0) ≡ false = grind (arith, ints) in sym e
sign_is (pos zero) (negsuc n) q3 a b c = let e : int_lt (weighed (pos 0) (negsuc n) q3) (pos 0) ≡ true = grind (arith, ints) in sym e
sign_is (pos zero) (pos (suc n)) q3 a b c = let e : int_lt (weighed (pos 0) (pos (suc n)) q3) (pos 0) ≡ false = grind (arith, ints) in sym e
sign_is (pos zero) (pos zero) (negsuc n) a b c = let e : int_lt (weighed (pos 0) (pos 0) (negsuc n)) (pos 0) ≡ true = grind (arith, ints) in
    sym e
sign_is (pos zero) (pos zero) (pos (suc n)) a b c = let e : int_lt (weighed (pos 0) (pos 0) (pos (suc n))) (pos 0) ≡ false =
    grind (arith, ints) in sym e
sign_is (pos zero) (pos zero) (pos zero) a b c = refl

below_zero : (z : ℤ) → true ≡ int_lt z (pos 0) → z <ℤ pos 0
below_zero z e = grind (arith, ints)

not_below_zero : (z : ℤ) → false ≡ int_lt z (pos 0) → pos 0 ≤ℤ z
not_below_zero z e = grind (arith, ints)

-- where SIGN is that of the sum, the sum with SIGN is its size
pub size_is : (negative : Bool) (q1 q2 q3 : ℤ) → negative ≡ int_lt (weighed q1 q2 q3) (pos 0)
    → pos (unsigned_abs (weighed q1 q2 q3)) ≡ weighed (with_sign negative q1) (with_sign negative q2) (with_sign negative q3)
size_is true q1 q2 q3 e = let h = below_zero (weighed q1 q2 q3) e in omega (arith, ints)
size_is false q1 q2 q3 e = let h = not_below_zero (weighed q1 q2 q3) e in omega (arith, ints)

-- only three of 0 weigh 0
none : (q1 q2 q3 : ℤ) → IsQuantizedGradient q1 → IsQuantizedGradient q2 → IsQuantizedGradient q3 → unsigned_abs (weighed q1 q2 q3) ≡ 0
    → (q1 ≡ pos 0) × (q2 ≡ pos 0) × (q3 ≡ pos 0)
none q1 q2 q3 a b c e = (omega (arith, ints), omega (arith, ints), omega (arith, ints))

same : (x y : ℕ) → (pos x -ℤ pos y) ≡ pos 0 → eqb x y ≡ true
same x y e = eq-eqb x y (omega (arith, ints))

-- equal samples have the quantized gradient 0
zero_step : (p : CodingParameters) (x y : ℕ) → eqb x y ≡ true → quantized_gradient p (pos x -ℤ pos y) ≡ pos 0
unfolding quantized_gradient
zero_step p x y e = let i = eqb-true x y e in let d : (pos x -ℤ pos y) ≡ pos 0 = omega (arith, ints) in rw d refl

-- run mode is where the sum is 0
module _ (p : CodingParameters) (near : Neighbours) (number : ℤ)
    (is : number ≡ (let q = quantized_gradients p near in weighed q.q1 q.q2 q.q3)) where
  abbrev d1 : ℤ
  d1 = pos near.rd -ℤ pos near.rb

  abbrev d2 : ℤ
  d2 = pos near.rb -ℤ pos near.rc

  abbrev d3 : ℤ
  d3 = pos near.rc -ℤ pos near.ra

  -- where the weighed sum is 0, the sample is in run mode
  pub run_mode : number ≡ pos 0 → is_run_mode near ≡ true
  run_mode e =
      let zeros = none (quantized_gradient p d1) (quantized_gradient p d2) (quantized_gradient p d3) (gradient_range p d1)
      (gradient_range p d2) (gradient_range p d3) (ap unsigned_abs (sym is ∙ e)) in
      let e1 = same near.rd near.rb (gradient_zero p d1 zeros.0) in let e2 = same near.rb near.rc (gradient_zero p d2 zeros.1) in
      let e3 = same near.rc near.ra (gradient_zero p d3 zeros.2) in
      rw (e1, e2, e3) refl

  -- where the weighed sum is not 0, the sample is not in run mode
  pub no_run_mode : (number ≡ pos 0 → ⊥) → is_run_mode near ≡ false
  no_run_mode some =
      elim (cases_Bool (eqb near.rd near.rb)) [
        | inr f ↦ rw f refl
        | inl e1 ↦ elim (cases_Bool (eqb near.rb near.rc)) [
          | inr f ↦ rw (e1, f) refl
          | inl e2 ↦ elim (cases_Bool (eqb near.rc near.ra)) [
            | inr f ↦ rw (e1, e2, f) refl
            | inl e3 ↦ (let a = zero_step p near.rd near.rb e1 in let b = zero_step p near.rb near.rc e2 in
                let c = zero_step p near.rc near.ra e3 in absurd (some (is ∙ rw (a, b, c) refl)))
          ]
        ]
      ]

-- outside run mode the size of the weighed sum is the context, and its sign is SIGN
pub regular_mode : (p : CodingParameters) (near : Neighbours) → is_run_mode near ≡ false
    → (number : ℤ) → number ≡ (let q = quantized_gradients p near in weighed q.q1 q.q2 q.q3)
    → IsRegularMode p near (unsigned_abs number) (int_lt number (pos 0))
unfolding is_negative context
regular_mode p near regular number is =
    let d1 : ℤ = pos near.rd -ℤ pos near.rb in let d2 : ℤ = pos near.rb -ℤ pos near.rc in let d3 : ℤ = pos near.rc -ℤ pos near.ra in
    let a = gradient_range p d1 in let b = gradient_range p d2 in let c = gradient_range p d3 in
    let q1 : ℤ = quantized_gradient p d1 in let q2 : ℤ = quantized_gradient p d2 in let q3 : ℤ = quantized_gradient p d3 in
    let sign : is_negative p near ≡ int_lt number (pos 0) = sign_is q1 q2 q3 a b c ∙ ap (λ z. int_lt z (pos 0)) (sym is) in
    let size : pos (unsigned_abs number)
    ≡ weighed (with_sign (is_negative p near) q1) (with_sign (is_negative p near) q2) (with_sign (is_negative p near) q3) =
    ap (λ z. pos (unsigned_abs z)) is ∙ size_is (is_negative p near) q1 q2 q3 (sign_is q1 q2 q3 a b c) in
    let some : unsigned_abs number ≡ 0 → ⊥ =
    λ e. (let zeros = none q1 q2 q3 a b c (ap unsigned_abs (sym is) ∙ e) in let e1 = same near.rd near.rb (gradient_zero p d1 zeros.0) in
    let e2 = same near.rb near.rc (gradient_zero p d2 zeros.1) in let e3 = same near.rc near.ra (gradient_zero p d3 zeros.2) in
    false≢true (sym regular ∙ rw (e1, e2, e3) refl)) in
    record {
      not_run = regular;
      context_is = omega (arith, ints);
      sign_is = sym sign;
      weighed_is = rw sign at size;
      at_least = omega (arith, ints);
      at_most = omega (arith, ints);
    }

-- the sum of the gradients of a sample
pub weighed_is : (p : CodingParameters) (near : Neighbours) (q1 q2 q3 number : ℤ) → AreGradients p near q1 q2 q3 → number ≡ weighed q1 q2 q3
    → number ≡ (let q = quantized_gradients p near in weighed q.q1 q.q2 q.q3)
weighed_is p near q1 q2 q3 number are is =
    is ∙ ap (λ z. weighed z q2 q3) are.first ∙ ap (λ z. weighed (quantized_gradient p (pos near.rd -ℤ pos near.rb)) z q3) are.second
    ∙ ap (λ z. weighed (quantized_gradient p (pos near.rd -ℤ pos near.rb)) (quantized_gradient p (pos near.rb -ℤ pos near.rc)) z)
    are.third
