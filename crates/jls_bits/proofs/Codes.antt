-- Golomb codes: the two kinds, what stands at the start of some bits, and that no code begins another.
use Rattle.std.proofs.Common.{◌≡◌, ℕ, zero, suc, ◌+◌, ◌-◌, ◌*◌, ◌/◌, ◌%◌, ◌^◌, ◌<◌, ◌≤◌, Bool, true, false, ◌&&◌, eqb, leb, List, [], ◌∷◌}
use Rattle.std.proofs.Common.{◌++◌, replicate, refl, sym, ap, ◌∙◌, arith, inl, inr, append_assoc, length, length-append}
use Rattle.std.proofs.lemmas.List.{append-nil, length-replicate}
use Rattle.std.proofs.lemmas.Nat.{div-add-mod', shr_high, mod_low, mod_below, pow_pos}
use Rattle.std.proofs.Math.Nat.{mod-eq_of_lt, zero-div}
use Rattle.std.proofs.lemmas.Bool.{cases_Bool, ltb-true, ltb-false, lt-ltb, le-ltb, le-leb, leb-true, and_from, and_parts}
use Rattle.jls_bits.specs.Bits.{bits}
use Rattle.jls_bits.specs.Golomb.{is_short, golomb, has_golomb}
use Rattle.jls_bits.proofs.NumberBits.{bits_same, bits_cong, bits_more, cons_same, length-bits}

-- zeros and a one that begin the same bits are as many, and the rest is the same
pub zeros_then_one : (a b : ℕ) (s t : List Bool)
    → replicate a false ++ true ∷ s ≡ replicate b false ++ true ∷ t → (a ≡ b) × (s ≡ t)
zeros_then_one zero zero s t e = (refl, cc)
zeros_then_one zero (suc b) s t e = cc
zeros_then_one (suc a) zero s t e = cc
zeros_then_one (suc a) (suc b) s t e =
    let h : (a ≡ b) × (s ≡ t) = zeros_then_one a b s t (cc) in (ap suc h.0, h.1)

-- more zeros than those before a one
pub zeros_differ : (n z : ℕ) (s rest : List Bool) → z < n → replicate n false ++ s ≡ replicate z false ++ true ∷ rest → ⊥
zeros_differ zero z s rest h e = absurd (omega arith)
zeros_differ (suc n) zero s rest h e = cc
zeros_differ (suc n) (suc z) s rest h e = zeros_differ n z s rest (omega arith) (cc)

-- one zero more
pub zeros_push : (n : ℕ) (s : List Bool) → replicate n false ++ false ∷ s ≡ replicate (n + 1) false ++ s
zeros_push zero s = refl
zeros_push (suc n) s = let e : suc n + 1 ≡ suc (n + 1) = omega arith in
    ap (λ z. false ∷ z) (zeros_push n s) ∙ ap (λ z. replicate z false ++ s) (sym e)

short_number : (k m n : ℕ) → m / 2 ^ k ≡ n / 2 ^ k → m % 2 ^ k ≡ n % 2 ^ k → m ≡ n
short_number k m n q r = let d = div-add-mod' m (2 ^ k) in let e = div-add-mod' n (2 ^ k) in cc

escape_number : (q m n : ℕ) → 1 ≤ m → m ≤ 2 ^ q → 1 ≤ n → n ≤ 2 ^ q → (m - 1) % 2 ^ q ≡ (n - 1) % 2 ^ q → m ≡ n
escape_number q m n a b c d e =
    let f : (m - 1) % 2 ^ q ≡ m - 1 = mod-eq_of_lt (omega arith) in
    let f' : (n - 1) % 2 ^ q ≡ n - 1 = mod-eq_of_lt (omega arith) in omega arith

module _ (k g q : ℕ) where
  abbrev pub esc : ℕ
  esc = g - q - 1

  pub golomb_short : (m : ℕ) (s : List Bool) → is_short k g q m ≡ true
      → golomb k g q m ++ s ≡ replicate (m / 2 ^ k) false ++ true ∷ (bits k m ++ s)
  unfolding golomb
  golomb_short m s h = rw (h, append_assoc) refl

  pub golomb_long : (m : ℕ) (s : List Bool) → is_short k g q m ≡ false
      → golomb k g q m ++ s ≡ replicate esc false ++ true ∷ (bits q (m - 1) ++ s)
  unfolding golomb
  golomb_long m s h = rw (h, append_assoc) refl

  -- a number with an escape is from 1 to 2^qbpp
  pub escape_range : (m : ℕ) → has_golomb k g q m ≡ true → is_short k g q m ≡ false → (1 ≤ m) × (m ≤ 2 ^ q)
  escape_range m h l =
      let both : (leb 1 m && leb m (2 ^ q)) ≡ true = rw l at h in
      let parts = and_parts (leb 1 m) (leb m (2 ^ q)) both in
      (leb-true 1 m parts.0, leb-true m (2 ^ q) parts.1)

  -- no code begins another
  pub golomb_same : (m n : ℕ) (s t : List Bool) → has_golomb k g q m ≡ true → has_golomb k g q n ≡ true
      → golomb k g q m ++ s ≡ golomb k g q n ++ t → (m ≡ n) × (s ≡ t)
  golomb_same m n s t h h' e =
      elim (cases_Bool (is_short k g q m)) [
        | inl a ↦ elim (cases_Bool (is_short k g q n)) [
          | inl b ↦ (let z = zeros_then_one _ _ _ _ (sym (golomb_short m s a) ∙ e ∙ golomb_short n t b) in
              let r = bits_same k m n s t z.1 in
              (short_number k m n z.0 r.0, r.1))
          | inr b ↦
              (let z = zeros_then_one _ _ _ _ (sym (golomb_short m s a) ∙ e ∙ golomb_long n t b) in let l = ltb-true _ _ a in
              absurd (omega (arith, z.0, l)))
        ]
        | inr a ↦
            elim (cases_Bool (is_short k g q n)) [
              | inl b ↦ (let z = zeros_then_one _ _ _ _ (sym (golomb_long m s a) ∙ e ∙ golomb_short n t b) in let l = ltb-true _ _ b in
                  absurd (omega (arith, z.0, l)))
              | inr b ↦
                  (let z = zeros_then_one _ _ _ _ (sym (golomb_long m s a) ∙ e ∙ golomb_long n t b) in
                  let r = bits_same q (m - 1) (n - 1) s t z.1 in
                  let u = escape_range m h a in let v = escape_range n h' b in (escape_number q m n u.0 u.1 v.0 v.1 r.0, r.1))
            ]
      ]

  -- after more zeros than an escape has stands no code
  pub many_zeros : (n : ℕ) (more : List Bool) (m : ℕ) (rest : List Bool) → esc < n → replicate n false ++ more ≡ golomb k g q m ++ rest → ⊥
  many_zeros n more m rest l e =
      elim (cases_Bool (is_short k g q m)) [
        | inl h ↦ (let s = ltb-true (m / 2 ^ k) esc h in
            zeros_differ n (m / 2 ^ k) more (bits k m ++ rest) (omega arith) (e ∙ golomb_short m rest h))
        | inr h ↦
            zeros_differ n esc more (bits q (m - 1) ++ rest) l (e ∙ golomb_long m rest h)
      ]

  -- after an escape's zeros stands an escape
  pub escape_after_zeros : (more : List Bool) (m : ℕ) (rest : List Bool) → replicate esc false ++ more ≡ golomb k g q m ++ rest
      → is_short k g q m ≡ false
  escape_after_zeros more m rest e =
      elim (cases_Bool (is_short k g q m)) [
        | inl h ↦ (let s = ltb-true (m / 2 ^ k) esc h in
            absurd (zeros_differ esc (m / 2 ^ k) more (bits k m ++ rest) s (e ∙ golomb_short m rest h)))
        | inr h ↦ h
      ]

  -- where zeros and a one stand and then the remainder of a short code, the code is whole
  pub short_code : (z v : ℕ) (given : List Bool) → z < esc → v < 2 ^ k → given ≡ replicate z false ++ true ∷ bits k v
      → (has_golomb k g q (z * 2 ^ k + v) ≡ true) × (golomb k g q (z * 2 ^ k + v) ≡ given)
  short_code z v given l b a =
      let m = z * 2 ^ k + v in let d : m / 2 ^ k ≡ z = shr_high z k v b in let r : m % 2 ^ k ≡ v = mod_low z k v b in
      let h : is_short k g q m ≡ true = lt-ltb (m / 2 ^ k) esc (omega arith) in
      let c : bits k m ≡ bits k v = bits_cong k m v (r ∙ sym (mod-eq_of_lt b)) in (
        rw h refl,
        sym (append-nil (golomb k g q m)) ∙ golomb_short m [] h ∙ ap (λ x. replicate x false ++ true ∷ (bits k m ++ [])) d
            ∙ ap (λ x. replicate z false ++ true ∷ x) (append-nil (bits k m) ∙ c) ∙ sym a,
      )

  -- where the zeros of an escape, the one and its number stand, and that has no short code, the code is whole
  pub escape_code : (v : ℕ) (given : List Bool) → v < 2 ^ q → esc ≤ (v + 1) / 2 ^ k → given ≡ replicate esc false ++ true ∷ bits q v
      → (has_golomb k g q (v + 1) ≡ true) × (golomb k g q (v + 1) ≡ given)
  escape_code v given b j a =
      let h : is_short k g q (v + 1) ≡ false = le-ltb ((v + 1) / 2 ^ k) esc j in let c : v + 1 - 1 ≡ v = omega arith in (
        rw h (and_from (leb 1 (v + 1)) (leb (v + 1) (2 ^ q)) (le-leb 1 (v + 1) (omega arith)) (le-leb (v + 1) (2 ^ q) (omega arith))),
        sym (append-nil (golomb k g q (v + 1))) ∙ golomb_long (v + 1) [] h
            ∙ ap (λ x. replicate esc false ++ true ∷ x) (append-nil (bits q (v + 1 - 1)) ∙ ap (λ x. bits q x) c) ∙ sym a,
      )

-- bits that begin with a one
leading_one : (n low x : ℕ) → low < 2 ^ n → low % 2 ^ n ≡ x % 2 ^ n → bits (n + 1) (2 ^ n + low) ≡ true ∷ bits n x
leading_one n low x l e =
    let m : n + 1 - 1 ≡ n = omega arith in let one : 2 ^ n + low ≡ 1 * 2 ^ n + low = omega arith in
    let d : (2 ^ n + low) / 2 ^ (n + 1 - 1) ≡ 1 = ap (λ z. (2 ^ n + low) / 2 ^ z) m ∙ ap (λ z. z / 2 ^ n) one ∙ shr_high 1 n low l in
    let r : (2 ^ n + low) % 2 ^ n ≡ x % 2 ^ n = ap (λ z. z % 2 ^ n) one ∙ mod_low 1 n low l ∙ sym (mod-eq_of_lt l) ∙ e in
    bits_more (n + 1) (2 ^ n + low) (omega arith)
    ∙ cons_same (ap (λ z. eqb (z % 2) 1) d) (ap (λ z. bits z (2 ^ n + low)) m ∙ bits_cong n (2 ^ n + low) x r)

-- a code in two parts
module _ (k g q : ℕ) where
  -- a short code in two parts: its zeros, and then the one with the remainder
  pub parts_of_short : (m : ℕ) → m / 2 ^ k < g - q - 1 → replicate (m / 2 ^ k) false ++ bits (k + 1) (2 ^ k + m % 2 ^ k) ≡ golomb k g q m
  parts_of_short m l =
      let low = mod_below m (2 ^ k) (pow_pos k) in
      ap (λ z. replicate (m / 2 ^ k) false ++ z)
      (leading_one k (m % 2 ^ k) m low (mod-eq_of_lt low) ∙ sym (ap (λ z. true ∷ z) (append-nil (bits k m))))
      ∙ sym (golomb_short k g q m [] (lt-ltb (m / 2 ^ k) (g - q - 1) l)) ∙ append-nil (golomb k g q m)

  -- an escape in two parts: its zeros, and then the one with the number
  pub parts_of_escape : (m : ℕ) → g - q - 1 ≤ m / 2 ^ k → m - 1 < 2 ^ q
      → replicate (g - q - 1) false ++ bits (q + 1) (2 ^ q + (m - 1)) ≡ golomb k g q m
  parts_of_escape m l b =
      ap (λ z. replicate (g - q - 1) false ++ z)
      (leading_one q (m - 1) (m - 1) b refl ∙ sym (ap (λ z. true ∷ z) (append-nil (bits q (m - 1)))))
      ∙ sym (golomb_long k g q m [] (le-ltb (m / 2 ^ k) (g - q - 1) l)) ∙ append-nil (golomb k g q m)

  -- an escape's number isn't 0
  pub escape_above_0 : (m : ℕ) → q + 2 ≤ g → g - q - 1 ≤ m / 2 ^ k → 1 ≤ m
  escape_above_0 zero h l = let e = zero-div (2 ^ k) in absurd (omega arith)
  escape_above_0 (suc m) h l = omega arith

  -- every number of at most 2^qbpp has a code
  pub small_has_code : (m : ℕ) → q + 2 ≤ g → m ≤ 2 ^ q → has_golomb k g q m ≡ true
  small_has_code m h l =
      elim (cases_Bool (is_short k g q m)) [
        | inl s ↦ rw s refl
        | inr s ↦ (let a = escape_above_0 m h (ltb-false (m / 2 ^ k) (g - q - 1) s) in
            rw s (and_from (leb 1 m) (leb m (2 ^ q)) (le-leb 1 m a) (le-leb m (2 ^ q) l)))
      ]

-- how long a code is
pub length_limited : (k g q m : ℕ) → k ≤ q → q + 2 ≤ g → length (golomb k g q m) ≤ g
length_limited k g q m h r =
    let n = ap length (append-nil (golomb k g q m)) in
    elim (cases_Bool (is_short k g q m)) [
      | inl s ↦ (let l = ltb-true (m / 2 ^ k) (g - q - 1) s in let e = ap length (golomb_short k g q m [] s) in
          let a = length-append (replicate (m / 2 ^ k) false) (true ∷ (bits k m ++ [])) in let b = length-replicate (m / 2 ^ k) false in
          let c = ap length (append-nil (bits k m)) in let d = length-bits k m in omega (arith, n, l, e, a, b, c, d))
      | inr s ↦ (let e = ap length (golomb_long k g q m [] s) in
          let a = length-append (replicate (g - q - 1) false) (true ∷ (bits q (m - 1) ++ [])) in
          let b = length-replicate (g - q - 1) false in
          let c = ap length (append-nil (bits q (m - 1))) in let d = length-bits q (m - 1) in omega (arith, n, e, a, b, c, d))
    ]
