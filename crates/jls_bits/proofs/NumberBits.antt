-- The bits of numbers.
use Rattle.std.proofs.Common.{◌≡◌, ℕ, zero, suc, ◌+◌, ◌-◌, ◌*◌, ◌/◌, ◌%◌, ◌^◌, ◌<◌, Bool, true, false, eqb, List, [], ◌∷◌, ◌++◌, length}
use Rattle.std.proofs.Common.{refl, sym, ap, ◌∙◌, subst, arith}
use mir.Val.{bool_byte}
use Rattle.std.proofs.lemmas.Grind.{pow_more}
use Rattle.std.proofs.lemmas.Nat.{mod-pow-add, shr-shr, same_from_place, mod_below, pow_pos}
use Rattle.std.proofs.lemmas.Bool.Decides.{nat_tests}
use Rattle.std.proofs.Math.Numerals.{one-add}
use Rattle.jls_bits.specs.Bits.{bits}

pub bits_none : (x : ℕ) → bits 0 x ≡ []
unfolding bits
bits_none x = refl

pub bits_more : (n x : ℕ) → 0 < n → bits n x ≡ eqb (x / 2 ^ (n - 1) % 2) 1 ∷ bits (n - 1) x
unfolding bits
bits_more zero x h = absurd (omega arith)
bits_more (suc n) x h = let e : suc n - 1 ≡ n = omega arith in rw e refl

-- a number's first bit, and the bits after it
pub first_bit : (n x : ℕ) (more : List Bool) → 0 < n → bits n x ++ more ≡ eqb (x / 2 ^ (n - 1) % 2) 1 ∷ (bits (n - 1) x ++ more)
first_bit n x more h = ap (λ z. z ++ more) (bits_more n x h)

pub length-bits : (n x : ℕ) → length (bits n x) ≡ n
unfolding bits
length-bits zero x = refl
length-bits (suc n) x = ap suc (length-bits n x)

pub cons_same : {x y : Bool} {xs ys : List Bool} → x ≡ y → xs ≡ ys → x ∷ xs ≡ y ∷ ys
cons_same e f = cc

-- the bits of a number are its upper bits and its lower bits
pub bits_split : (m n x : ℕ) → bits (m + n) x ≡ bits m (x / 2 ^ n) ++ bits n x
unfolding bits
bits_split zero n x = let e : zero + n ≡ n = omega arith in rw e refl
bits_split (suc m) n x =
    let e : suc m + n ≡ suc (m + n) = omega arith in let f : n + m ≡ m + n = omega arith in
    let d : x / 2 ^ n / 2 ^ m ≡ x / 2 ^ (m + n) = shr-shr x n m ∙ ap (λ z. x / 2 ^ z) f in
    ap (λ z. bits z x) e ∙ cons_same (ap (λ z. eqb (z % 2) 1) (sym d)) (bits_split m n x)

-- a bit at the end of a number is shifted out with the bits before it
half_shift : (n x y : ℕ) → y < 2 → (2 * x + y) / 2 ^ suc n ≡ x / 2 ^ n
half_shift n x y h =
    let a : (2 * x + y) / 2 ≡ x = omega arith in
    let s : (2 * x + y) / 2 ^ 1 / 2 ^ n ≡ (2 * x + y) / 2 ^ (1 + n) = shr-shr (2 * x + y) 1 n in
    let e : 1 + n ≡ suc n = omega arith in
    ap (λ z. (2 * x + y) / 2 ^ z) (sym e) ∙ sym s ∙ ap (λ z. z / 2 ^ n) a

-- a bit more at the end
pub bits_push : (n x y : ℕ) → y < 2 → bits (n + 1) (2 * x + y) ≡ bits n x ++ eqb y 1 ∷ []
unfolding bits
bits_push zero x y h = let a : (2 * x + y) / 2 ^ 0 % 2 ≡ y = omega arith in
    let b : eqb ((2 * x + y) / 2 ^ 0 % 2) 1 ≡ eqb y 1 = ap (λ z. eqb z 1) a in ap (λ z. z ∷ []) b
bits_push (suc n) x y h =
    let e : suc n + 1 ≡ suc (suc n) = omega arith in let f : suc n ≡ n + 1 = omega arith in
    let d : (2 * x + y) / 2 ^ suc n ≡ x / 2 ^ n = half_shift n x y h in
    ap (λ z. bits z (2 * x + y)) e ∙ cons_same (ap (λ z. eqb (z % 2) 1) d) (ap (λ z. bits z (2 * x + y)) f ∙ bits_push n x y h)

-- a bit more at the end, as a `bool`: the number stays as small as its bits are few
pub bits_push_bool : (b : Bool) (n x : ℕ) → x < 2 ^ n
    → (bits (n + 1) (2 * x + bool_byte b) ≡ bits n x ++ b ∷ []) × (2 * x + bool_byte b < 2 ^ (n + 1))
bits_push_bool true n x h = let p : 2 ^ (n + 1) ≡ 2 ^ n * 2 = pow_more 2 n in (bits_push n x 1 (omega arith), omega arith)
bits_push_bool false n x h = let p : 2 ^ (n + 1) ≡ 2 ^ n * 2 = pow_more 2 n in (bits_push n x 0 (omega arith), omega arith)

bit_same : (x y : ℕ) → eqb (x % 2) 1 ≡ eqb (y % 2) 1 → x % 2 ≡ y % 2
bit_same x y e = grind (arith, nat_tests)

-- numbers that agree modulo a power of 2, and in the next bit, agree modulo the next power
bits_step : (n x y : ℕ) → x / 2 ^ n % 2 ≡ y / 2 ^ n % 2 → x % 2 ^ n ≡ y % 2 ^ n → x % 2 ^ suc n ≡ y % 2 ^ suc n
bits_step n x y b r =
    let p : x % 2 ^ (1 + n) ≡ (x / 2 ^ n % 2) * 2 ^ n + x % 2 ^ n = mod-pow-add x 1 n in
    let q : y % 2 ^ (1 + n) ≡ (y / 2 ^ n % 2) * 2 ^ n + y % 2 ^ n = mod-pow-add y 1 n in
    subst (λ m. x % 2 ^ m ≡ y % 2 ^ m) (one-add n) (cc)

-- equal bits are of numbers that agree modulo a power of 2
pub bits_same : (n x y : ℕ) (s t : List Bool) → bits n x ++ s ≡ bits n y ++ t → (x % 2 ^ n ≡ y % 2 ^ n) × (s ≡ t)
unfolding bits
bits_same zero x y s t e = (omega arith, e)
bits_same (suc n) x y s t e =
    let head : eqb (x / 2 ^ n % 2) 1 ≡ eqb (y / 2 ^ n % 2) 1 = cc in
    let rest : (x % 2 ^ n ≡ y % 2 ^ n) × (s ≡ t) = bits_same n x y s t (cc) in
    (bits_step n x y (bit_same (x / 2 ^ n) (y / 2 ^ n) head) rest.0, rest.1)

-- numbers that agree modulo a power of 2 have equal bits
pub bits_cong : (n x y : ℕ) → x % 2 ^ n ≡ y % 2 ^ n → bits n x ≡ bits n y
unfolding bits
bits_cong zero x y h = refl
bits_cong (suc n) x y h =
    let e : 1 + n ≡ suc n = omega arith in let q = pow_pos n in
    let a : x % 2 ^ suc n ≡ (x / 2 ^ n % 2) * 2 ^ n + x % 2 ^ n = ap (λ z. x % 2 ^ z) (sym e) ∙ mod-pow-add x 1 n in
    let b : y % 2 ^ suc n ≡ (y / 2 ^ n % 2) * 2 ^ n + y % 2 ^ n = ap (λ z. y % 2 ^ z) (sym e) ∙ mod-pow-add y 1 n in
    let c : (x / 2 ^ n % 2) * 2 ^ n + x % 2 ^ n ≡ (y / 2 ^ n % 2) * 2 ^ n + y % 2 ^ n = sym a ∙ h ∙ b in
    let s = same_from_place (x / 2 ^ n % 2) (x % 2 ^ n) (y / 2 ^ n % 2) (y % 2 ^ n) (2 ^ n) (mod_below x (2 ^ n) q) (mod_below y (2 ^ n) q)
    c in
    cons_same (ap (λ z. eqb z 1) s.0) (bits_cong n x y s.1)
