-- No Golomb code begins another.
use Rattle.std.proofs.Common.{◌≡◌, ℕ, ◌-◌, ◌/◌, ◌%◌, ◌^◌, ◌≤◌, Bool, true, false, ◌&&◌, ltb, leb, List, ◌∷◌, ◌++◌, replicate, refl, sym}
use Rattle.std.proofs.Common.{◌∙◌, arith, inl, inr, append_assoc}
use Rattle.std.proofs.lemmas.Nat.{div-add-mod'}
use Rattle.std.proofs.Math.Nat.{mod-eq_of_lt}
use Rattle.std.proofs.lemmas.Bool.{cases_Bool, ltb-true, leb-true, and_parts}
use Rattle.jls_bits.specs.Bits.{bits}
use Rattle.jls_bits.proofs.NumberBits.{bits_same}
use Rattle.jls_bits.proofs.Codes.{zeros_then_one}
use Rattle.jls_bits.specs.Golomb.{golomb, has_golomb}

pub golomb_short : (k g qbpp m : ℕ) (s : List Bool) → ltb (m / 2 ^ k) (g - qbpp - 1) ≡ true
    → golomb k g qbpp m ++ s ≡ replicate (m / 2 ^ k) false ++ true ∷ (bits k m ++ s)
unfolding golomb
golomb_short k g qbpp m s h = rw (h, append_assoc) refl

pub golomb_long : (k g qbpp m : ℕ) (s : List Bool) → ltb (m / 2 ^ k) (g - qbpp - 1) ≡ false
    → golomb k g qbpp m ++ s ≡ replicate (g - qbpp - 1) false ++ true ∷ (bits qbpp (m - 1) ++ s)
unfolding golomb
golomb_long k g qbpp m s h = rw (h, append_assoc) refl

short_same : (k m m' : ℕ) → m / 2 ^ k ≡ m' / 2 ^ k → m % 2 ^ k ≡ m' % 2 ^ k → m ≡ m'
short_same k m m' q r = let d = div-add-mod' m (2 ^ k) in let d' = div-add-mod' m' (2 ^ k) in cc

long_same : (q m m' : ℕ) → 1 ≤ m → m ≤ 2 ^ q → 1 ≤ m' → m' ≤ 2 ^ q → (m - 1) % 2 ^ q ≡ (m' - 1) % 2 ^ q → m ≡ m'
long_same q m m' a b c d e =
    let f : (m - 1) % 2 ^ q ≡ m - 1 = mod-eq_of_lt (omega arith) in
    let f' : (m' - 1) % 2 ^ q ≡ m' - 1 = mod-eq_of_lt (omega arith) in omega arith

-- a number with an escape is from 1 to 2^qbpp
long_range : (k g qbpp m : ℕ) → has_golomb k g qbpp m ≡ true → ltb (m / 2 ^ k) (g - qbpp - 1) ≡ false → (1 ≤ m) × (m ≤ 2 ^ qbpp)
long_range k g qbpp m h l =
    let both : (leb 1 m && leb m (2 ^ qbpp)) ≡ true = rw l at h in
    let parts = and_parts (leb 1 m) (leb m (2 ^ qbpp)) both in
    (leb-true 1 m parts.0, leb-true m (2 ^ qbpp) parts.1)

-- two numbers whose Golomb codes begin the same bits are one, and the rest of the bits is the same
pub golomb_same : (k g qbpp m m' : ℕ) (s t : List Bool) → has_golomb k g qbpp m ≡ true → has_golomb k g qbpp m' ≡ true
    → golomb k g qbpp m ++ s ≡ golomb k g qbpp m' ++ t → (m ≡ m') × (s ≡ t)
golomb_same k g qbpp m m' s t h h' e =
    elim (cases_Bool (ltb (m / 2 ^ k) (g - qbpp - 1))) [
      | inl a ↦ elim (cases_Bool (ltb (m' / 2 ^ k) (g - qbpp - 1))) [
        | inl b ↦ (let z = zeros_then_one _ _ _ _ (sym (golomb_short k g qbpp m s a) ∙ e ∙ golomb_short k g qbpp m' t b) in
            let r = bits_same k m m' s t z.1 in (short_same k m m' z.0 r.0, r.1))
        | inr b ↦
            (let z = zeros_then_one _ _ _ _ (sym (golomb_short k g qbpp m s a) ∙ e ∙ golomb_long k g qbpp m' t b) in
            let l = ltb-true _ _ a in
            absurd (omega (arith, z.0, l)))
      ]
      | inr a ↦
          elim (cases_Bool (ltb (m' / 2 ^ k) (g - qbpp - 1))) [
            | inl b ↦ (let z = zeros_then_one _ _ _ _ (sym (golomb_long k g qbpp m s a) ∙ e ∙ golomb_short k g qbpp m' t b) in
                let l = ltb-true _ _ b in absurd (omega (arith, z.0, l)))
            | inr b ↦
                (let z = zeros_then_one _ _ _ _ (sym (golomb_long k g qbpp m s a) ∙ e ∙ golomb_long k g qbpp m' t b) in
                let r = bits_same qbpp (m - 1) (m' - 1) s t z.1 in let u = long_range k g qbpp m h a in
                let v = long_range k g qbpp m' h' b in
                (long_same qbpp m m' u.0 u.1 v.0 v.1 r.0, r.1))
          ]
    ]
