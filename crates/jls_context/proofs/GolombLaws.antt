-- The k of Golomb codes.
use Rattle.std.proofs.Common.{◌≡◌, ℕ, zero, suc, ◌+◌, ◌-◌, ◌*◌, ◌%◌, ◌^◌, ◌<◌, ◌≤◌, Bool, true, false, eqb, leb, ltb, refl, sym, ap, ◌∙◌}
use Rattle.std.proofs.Common.{arith, inl, inr}
use mir.Val.{bool_byte}
use Rattle.std.specs.Prelude.{max}
use Rattle.std.proofs.lemmas.Bool.{cases_Bool, cases_eq, cases_lt, le-leb, leb-true, leb-false, lt-leb, lt-ltb, le-ltb, ne_eqb}
use Rattle.std.proofs.Math.Nat.{le-max_left, le-max_right, max-eq_left, max-eq_right, mod-eq_of_lt}
use Rattle.std.proofs.lemmas.Nat.{pow_pos, pow-add, mul-le}
use Rattle.std.proofs.Math.Pow.{pow_mono}
use Rattle.std.proofs.lemmas.Grind.{pow_more}
use Rattle.jls_values.proofs.Least.{least_from-first}
use Rattle.jls_values.specs.Params.{least_from}
use Rattle.jls_context.specs.Regular.{golomb_k, IsGolombK}
use Rattle.jls_context.proofs.Sizes.{least_from-passes}

-- a number is less than its power of 2
pub self-lt-pow : (n : ℕ) → n < 2 ^ n
self-lt-pow zero = omega arith
self-lt-pow (suc n) =
    let step : suc n ≡ n + 1 = omega arith in let more : 2 ^ (n + 1) ≡ 2 ^ n * 2 = pow_more 2 n in
    let below : n < 2 ^ n = self-lt-pow n in rw (step, more) (omega arith)

-- a number that passes where none below it does is k
pub golomb_k-least : (n a k : ℕ) → 1 ≤ n → a ≤ n * 2 ^ k → ((j : ℕ) → j < k → n * 2 ^ j < a) → golomb_k n a ≡ k
unfolding golomb_k
golomb_k-least n a k some here before =
    least_from-first (λ k. leb a (n * 2 ^ k)) a 0 k (omega arith) (small n k some before)
    (λ j at_least below. lt-leb _ _ (before j below))
    (le-leb _ _ here)
  where
    small : (n k : ℕ) → 1 ≤ n → ((j : ℕ) → j < k → n * 2 ^ j < a) → k ≤ 0 + a
    small n zero some before = omega arith
    small zero (suc j) some before = absurd (omega arith)
    small (suc m) (suc j) some before =
        let below : suc m * 2 ^ j < a = before j (omega arith) in let size : j < 2 ^ j = self-lt-pow j in omega arith

-- the number that a search finds is not below the one that it begins with
least_from-at_least : (passes : ℕ → Bool) (count from : ℕ) → from ≤ least_from passes count from
unfolding least_from
least_from-at_least passes zero from = omega arith
least_from-at_least passes (suc count) from =
    elim (cases_Bool (passes from))
    [ inl e ↦ rw e (omega arith) | inr e ↦ (let later = least_from-at_least passes count (suc from) in rw e (omega arith)) ]

-- no number before the one that is found passes
pub least_from-before : (passes : ℕ → Bool) (count from j : ℕ) → from ≤ j → j < least_from passes count from → passes j ≡ false
unfolding least_from
least_from-before passes zero from j low high = absurd (omega arith)
least_from-before passes (suc count) from j low high =
    elim (cases_Bool (passes from)) [
      | inl e ↦ (let h : j < from = rw e at high in absurd (omega arith))
      | inr e ↦
          let h : j < least_from passes count (suc from) = rw e at high in
          elim (cases_eq j from) [ inl is ↦ rw is e | inr apart ↦ least_from-before passes count (suc from) j (omega arith) h ]
    ]

-- k is the least number that passes
pub golomb_k_found : (n a : ℕ) → 1 ≤ n → IsGolombK n a (golomb_k n a)
unfolding golomb_k
golomb_k_found n a some =
    let size : a < 2 ^ a = self-lt-pow a in
    let raised : 1 * 2 ^ a ≤ n * 2 ^ a = mul-le 1 (2 ^ a) n (2 ^ a) some (omega arith) in
    let last : a ≤ n * 2 ^ a = omega arith in
    let same : 0 + a ≡ a = omega arith in
    let top : leb a (n * 2 ^ (0 + a)) ≡ true = rw same (le-leb a (n * 2 ^ a) last) in
    record {
      enough = leb-true a _ (least_from-passes (λ k. leb a (n * 2 ^ k)) a 0 top);
      least = λ below lt. leb-false a (n * 2 ^ below) (least_from-before (λ k. leb a (n * 2 ^ k)) a 0 below (omega arith) lt);
    }

-- k is 0 exactly where N is at least A
pub golomb_k_is_zero : (n a : ℕ) → eqb (golomb_k n a) 0 ≡ leb a n
unfolding golomb_k least_from
golomb_k_is_zero n zero = sym (le-leb 0 n (omega arith))
golomb_k_is_zero n (suc a) =
    let once : n * 2 ^ 0 ≡ n = omega arith in
    elim (cases_Bool (leb (suc a) n)) [
      | inl e ↦ let enough : leb (suc a) (n * 2 ^ 0) ≡ true = ap (leb (suc a)) once ∙ e in rw (enough, e) refl
      | inr e ↦
          let short : leb (suc a) (n * 2 ^ 0) ≡ false = ap (leb (suc a)) once ∙ e in
          let later = least_from-at_least (λ k. leb (suc a) (n * 2 ^ k)) a 1 in
          rw (short, e) (ne_eqb _ 0 (λ z. omega arith))
    ]

-- M is the larger of A and N, and 2^e and 2^f are the largest powers of 2 in M and N
module _ (n a m e f : ℕ) (larger : m ≡ max a n) (low : 2 ^ f ≤ n) (high : n < 2 * 2 ^ f) (from : 2 ^ e ≤ m) (to : m < 2 * 2 ^ e) where
  n_within : n ≤ m
  n_within = rw larger (le-max_right a n)

  a_within : a ≤ m
  a_within = rw larger (le-max_left a n)

  pub order_within : f ≤ e
  order_within =
      let within = n_within in
      elim (cases_lt e f) [
        | inl h ↦ (let p : 2 ^ (e + 1) ≤ 2 ^ f = pow_mono {i = e + 1} {j = f} (omega arith) in let q = pow_more 2 e in
            absurd (omega arith))
        | inr h ↦ h
      ]

  -- N brought to the power of 2 in M
  raised_within : (2 ^ e ≤ n * 2 ^ (e - f)) × (n * 2 ^ (e - f) < 2 * 2 ^ e)
  raised_within =
      let within = order_within in let d : ℕ = e - f in let sum : e ≡ f + d = omega arith in
      let parts : 2 ^ e ≡ 2 ^ f * 2 ^ d = ap (λ x. 2 ^ x) sum ∙ pow-add 2 f d in
      let least : 2 ^ f * 2 ^ d ≤ n * 2 ^ d = mul-le (2 ^ f) (2 ^ d) n (2 ^ d) low (omega arith) in
      let most : (n + 1) * 2 ^ d ≤ 2 * 2 ^ f * 2 ^ d = mul-le (n + 1) (2 ^ d) (2 * 2 ^ f) (2 ^ d) (omega arith) (omega arith) in
      let some = pow_pos d in (omega arith, omega arith)

  -- it fits 32 bits where M does
  pub raised_fits : e < 32 → n * 2 ^ (e - f) % 4294967296 ≡ n * 2 ^ (e - f)
  raised_fits small =
      let within = raised_within in let p : 2 ^ e ≤ 2 ^ 31 = pow_mono {i = e} {j = 31} (omega arith) in mod-eq_of_lt (omega arith)

  -- fewer steps leave N too small
  raised_before : (j : ℕ) → j < e - f → n * 2 ^ j < a
  raised_before j below =
      let within = raised_within in
      let once : 2 ^ (f + 1) ≤ 2 ^ e = pow_mono {i = f + 1} {j = e} (omega arith) in let twice = pow_more 2 f in
      let is_a : m ≡ a = elim (cases_lt a n)
      [ inl h ↦ (let e : max a n ≡ n = max-eq_right (omega arith) in absurd (omega arith)) | inr h ↦ larger ∙ max-eq_left h ] in
      let next : 2 ^ (j + 1) ≤ 2 ^ (e - f) = pow_mono {i = j + 1} {j = e - f} (omega arith) in let double = pow_more 2 j in
      let grown : n * 2 ^ (j + 1) ≤ n * 2 ^ (e - f) = mul-le n (2 ^ (j + 1)) n (2 ^ (e - f)) (omega arith) next in
      let as_double : n * 2 ^ (j + 1) ≡ n * 2 ^ j * 2 = rw double (omega arith) in
      omega arith

  -- k is the difference of the two, or one more
  pub order_is_k : IsGolombK n a (e - f + bool_byte (ltb (n * 2 ^ (e - f)) a))
  order_is_k =
      elim (cases_lt (n * 2 ^ (e - f)) a) [
        | inl short ↦
            let test : ltb (n * 2 ^ (e - f)) a ≡ true = lt-ltb (n * 2 ^ (e - f)) a short in
            let within = raised_within in let at_most = a_within in let double = pow_more 2 (e - f) in
            let as_double : n * 2 ^ (e - f + 1) ≡ n * 2 ^ (e - f) * 2 = rw double (omega arith) in
            rw test (record {
              enough = omega arith;
              least =
                  λ j below. elim (cases_lt j (e - f))
                  [ inl h ↦ raised_before j h | inr h ↦ (let same : j ≡ e - f = omega arith in rw same short) ];
            })
        | inr enough ↦
            let test : ltb (n * 2 ^ (e - f)) a ≡ false = le-ltb (n * 2 ^ (e - f)) a enough in
            let plain : e - f + 0 ≡ e - f = omega arith in
            rw (test, plain) (record { enough = enough; least = raised_before })
      ]

-- a number that is k
pub golomb_k_is : (n a k : ℕ) → 1 ≤ n → IsGolombK n a k → golomb_k n a ≡ k
golomb_k_is n a k some is = golomb_k-least n a k some is.enough is.least

pub k_at_most : (n a k : ℕ) → a ≤ n * 2 ^ 16 → IsGolombK n a k → k ≤ 16
k_at_most n a k few is = elim (cases_lt 16 k) [ inl h ↦ (let below = is.least 16 h in absurd (omega arith)) | inr h ↦ h ]
