-- The neighbours of a place in finished lines, by L(y, x) and as they are computed from the lines above.
use Rattle.std.proofs.Common.{◌≡◌, ℕ, zero, suc, ◌+◌, ◌-◌, ◌*◌, ◌/◌, ◌%◌, ◌<◌, ◌≤◌, Bool, true, false, eqb, ltb, List, [], length, take}
use Rattle.std.proofs.Common.{get_or, refl, sym, ap, ◌∙◌, arith}
use Rattle.std.specs.Prelude.{pos, ◌-ℤ◌, if◌then◌else◌}
use Rattle.std.proofs.lemmas.Int.{ints}
use Rattle.std.proofs.lemmas.List.{length-take-le, get_or-take}
use Rattle.std.proofs.lemmas.Bool.{lt-ltb, le-ltb, ne_eqb}
use Rattle.std.proofs.Math.Nat.{suc-mul}
use Rattle.jls_context.specs.declared.mode.Neighbours.{Neighbours}
use Rattle.jls_interval.specs.Lines.{sample_at, neighbours_at}
use Rattle.jls_interval.specs.Events.{neighbours, above, line_back}

-- a line that isn't there
back_none : (lines : List (List ℕ)) (back j x : ℕ) → j ≤ length lines → j < back → get_or (line_back (take j lines) back) x 0 ≡ 0
back_none lines back j x h l =
    let n = length-take-le j lines h in let t : ltb (length (take j lines)) back ≡ true = lt-ltb _ _ (omega arith) in rw t refl

-- a line that is
back_some : (lines : List (List ℕ)) (back j i x : ℕ) → j ≤ length lines → 0 < back → j ≡ i + back
    → get_or (line_back (take j lines) back) x 0 ≡ get_or (get_or lines i []) x 0
back_some lines back j i x h s e =
    let n = length-take-le j lines h in let t : ltb (length (take j lines)) back ≡ false = le-ltb _ _ (omega arith) in
    let f : length (take j lines) - back ≡ i = omega arith in let g = get_or-take j lines i [] (omega arith) in
    rw t (ap (λ z. get_or (get_or (take j lines) z []) x 0) f ∙ ap (λ z. get_or z x 0) g)

module _ (c : ℕ) (lines : List (List ℕ)) (k j x : ℕ) (few : k < c) (within : j ≤ length lines) where
  -- one line of the component above
  above_one : (y : ℕ) → j ≡ y * c + k → sample_at c lines k (pos y -ℤ pos 1) x ≡ get_or (line_back (take j lines) c) x 0
  unfolding sample_at
  above_one zero e = sym (back_none lines c j x within (omega arith))
  above_one (suc y) e =
      let s : suc y * c ≡ y * c + c = suc-mul y c in let m : pos (suc y) -ℤ pos 1 ≡ pos y = omega (arith, ints) in
      ap (λ z. sample_at c lines k z x) m ∙ sym (back_some lines c j (y * c + k) x within (omega arith) (omega arith))

  -- two lines above
  above_two : (y : ℕ) → j ≡ y * c + k → sample_at c lines k (pos y -ℤ pos 2) x ≡ get_or (line_back (take j lines) (2 * c)) x 0
  unfolding sample_at
  above_two zero e = sym (back_none lines (2 * c) j x within (omega arith))
  above_two (suc zero) e = let s : suc zero * c ≡ c = suc-mul 0 c ∙ (omega arith) in sym (back_none lines (2 * c) j x within (omega arith))
  above_two (suc (suc y)) e =
      let s : suc (suc y) * c ≡ suc y * c + c = suc-mul (suc y) c in let r : suc y * c ≡ y * c + c = suc-mul y c in
      let m : pos (suc (suc y)) -ℤ pos 2 ≡ pos y = omega (arith, ints) in
      ap (λ z. sample_at c lines k z x) m ∙ sym (back_some lines (2 * c) j (y * c + k) x within (omega arith) (omega arith))

module _ (c : ℕ) (lines : List (List ℕ)) (j : ℕ) (some : 0 < c) (within : j ≤ length lines) where
  place_is : (j / c) * c + j % c ≡ j
  place_is = omega arith

  -- a sample of the line itself
  pub sample_is : (x : ℕ) → sample_at c lines (j % c) (pos (j / c)) x ≡ get_or (get_or lines j []) x 0
  unfolding sample_at
  sample_is x = ap (λ z. get_or (get_or lines z []) x 0) place_is

  near_same : (a a' b b' d d' e e' : ℕ) → a ≡ a' → b ≡ b' → d ≡ d' → e ≡ e'
      → (let n : Neighbours = record { ra = a; rb = b; rc = d; rd = e } in n) ≡ record { ra = a'; rb = b'; rc = d'; rd = e' }
  near_same a a' b b' d d' e e' p q r s = cc

  if_same : (t t' : Bool) (a a' b b' : ℕ) → t ≡ t' → a ≡ a' → b ≡ b' → (if t then a else b) ≡ (if t' then a' else b')
  if_same t t' a a' b b' p q r = cc

  -- the neighbours of a place
  pub neighbours_are : (w x : ℕ) → neighbours_at w c lines (j % c) (j / c) x ≡ neighbours w (above c (take j lines)) (get_or lines j []) x
  unfolding neighbours_at
  neighbours_are w zero =
      let one : (x : ℕ) → sample_at c lines (j % c) (pos (j / c) -ℤ pos 1) x ≡ get_or (line_back (take j lines) c) x 0 =
      λ x. above_one c lines (j % c) j x (omega arith) within (j / c) (sym place_is) in
      near_same _ _ _ _ _ _ _ _ (one 0) (one 0) (above_two c lines (j % c) j 0 (omega arith) within (j / c) (sym place_is))
      (if_same (ltb 1 w) (ltb 1 w) _ _ _ _ refl (one 1) (one 0))
  neighbours_are w (suc x) =
      let one : (x : ℕ) → sample_at c lines (j % c) (pos (j / c) -ℤ pos 1) x ≡ get_or (line_back (take j lines) c) x 0 =
      λ x. above_one c lines (j % c) j x (omega arith) within (j / c) (sym place_is) in
      let t : eqb (suc x) 0 ≡ false = ne_eqb (suc x) 0 (λ e. omega arith) in let e : suc x - 1 ≡ x = omega arith in
      let f : suc x + 1 ≡ x + 2 = omega arith in
      near_same _ _ _ _ _ _ _ _ (rw (t, e) (sample_is x)) (one (suc x)) (rw (t, e) (one x))
      (if_same (ltb (suc x + 1) w) (ltb (x + 2) w) _ _ _ _ (ap (λ z. ltb z w) f)
      (ap (λ z. sample_at c lines (j % c) (pos (j / c) -ℤ pos 1) z) f ∙ one (x + 2)) (one (suc x)))
