-- Digits that are read one by one.
use Rattle.std.proofs.Common.{◌≡◌, ℕ, zero, suc, ◌+◌, ◌*◌, ◌^◌, ◌<◌, ◌≤◌, ◌∙◌, Bool, true, false, eqb, ltb, ◌&&◌, List, [], ◌∷◌, ◌++◌, length, get_or, take, drop, Some, None, refl, sym, ap, arith}
use Rattle.std.specs.List.{list_all}
use Rattle.std.specs.Char.{is_digit, digit_value}
use Rattle.std.specs.Str.Parse.{digits_value, digits_value_after}
use Rattle.std.proofs.lemmas.List.Folds.{list_all_more}
use Rattle.std.proofs.lemmas.Bool.Decides.{nat_tests}
use Rattle.std.proofs.lemmas.Int.Digits.{digits_value_more}
use Rattle.std.proofs.Math.Bool.{and-false}
use Rattle.std.proofs.lemmas.List.{take-append-drop, take_all}
use Rattle.jls_bad.specs.ListText.{in_base}

after-append : (base n : ℕ) (xs ys : List ℕ) → digits_value_after base n (xs ++ ys) ≡ digits_value_after base (digits_value_after base n xs) ys
after-append base n [] ys = refl
after-append base n (x ∷ xs) ys = after-append base (n * base + digit_value x) xs ys

le-times : (n base : ℕ) → 0 < base → n ≤ n * base
le-times n zero h = absurd (omega (arith, h))
le-times n (suc base) h = grind arith

after-ge : (base n : ℕ) (xs : List ℕ) → 0 < base → n ≤ digits_value_after base n xs
after-ge base n [] h = omega arith
after-ge base n (x ∷ xs) h = omega (arith, le-times n base h, after-ge base (n * base + digit_value x) xs h)

-- more digits make no smaller number
front-le : (base k : ℕ) (xs : List ℕ) → 0 < base → digits_value base (take k xs) ≤ digits_value base xs
front-le base k xs h =
    let joined : digits_value base xs ≡ digits_value_after base (digits_value base (take k xs)) (drop k xs) = ap (digits_value base) (sym (take-append-drop k xs)) ∙ after-append base 0 (take k xs) (drop k xs) in
    omega (arith, joined, after-ge base (digits_value base (take k xs)) (drop k xs) h)

-- a number that is too large from some digit on
pub none_by_size : (base : ℕ) (xs : List ℕ) (i : ℕ) → 0 < base → i < length xs → 2 ^ 64 ≤ digits_value base (take i xs) * base + digit_value (get_or xs i 0) → in_base base xs ≡ None
none_by_size base xs i p h large =
    let e : ltb (digits_value base xs) (2 ^ 64) ≡ false = grind (arith, nat_tests, front-le base (i + 1) xs p, digits_value_more base xs i h) in
    simp (e, and-false)

-- all are read
pub some_number : (base : ℕ) (xs : List ℕ) → 0 < length xs → list_all (λ byte. is_digit byte base) xs ≡ true → digits_value base xs < 2 ^ 64 → in_base base xs ≡ Some (digits_value base xs)
some_number base xs h all small =
    let e : ltb (digits_value base xs) (2 ^ 64) ≡ true = grind (arith, nat_tests) in
    let f : ltb 0 (length xs) ≡ true = grind (arith, nat_tests) in
    simp (e, f, all)

-- what one more digit makes of the number so far
pub none_by_product : (base : ℕ) (xs : List ℕ) (i value factor : ℕ) → 0 < base → i < length xs → value ≡ digits_value base (take i xs) → factor ≡ base → (value * factor < 2 ^ 64 → ⊥) → in_base base xs ≡ None
none_by_product base xs i value factor p h e f large =
    let times : value * factor ≡ digits_value base (take i xs) * base = ap (λ v. v * factor) e ∙ ap (λ b. digits_value base (take i xs) * b) f in
    none_by_size base xs i p h (omega (arith, times, large))

next_value : (base : ℕ) (xs : List ℕ) (i value factor product digit : ℕ) → value ≡ digits_value base (take i xs) → factor ≡ base → product ≡ value * factor → digit ≡ digit_value (get_or xs i 0)
    → product + digit ≡ digits_value base (take i xs) * base + digit_value (get_or xs i 0)
next_value base xs i value factor product digit e f g d =
    let times : value * factor ≡ digits_value base (take i xs) * base = ap (λ v. v * factor) e ∙ ap (λ b. digits_value base (take i xs) * b) f in
    omega (arith, times, g, d)

pub none_by_sum : (base : ℕ) (xs : List ℕ) (i value factor product digit : ℕ) → 0 < base → i < length xs → value ≡ digits_value base (take i xs) → factor ≡ base → product ≡ value * factor → digit ≡ digit_value (get_or xs i 0)
    → (product + digit < 2 ^ 64 → ⊥) → in_base base xs ≡ None
none_by_sum base xs i value factor product digit p h e f g d large =
    none_by_size base xs i p h (omega (arith, next_value base xs i value factor product digit e f g d, large))

pub value_more : (base : ℕ) (xs : List ℕ) (i value factor product digit next : ℕ) → i < length xs → value ≡ digits_value base (take i xs) → factor ≡ base → product ≡ value * factor → digit ≡ digit_value (get_or xs i 0)
    → next ≡ product + digit → next ≡ digits_value base (take (i + 1) xs)
value_more base xs i value factor product digit next h e f g d n =
    n ∙ (next_value base xs i value factor product digit e f g d ∙ sym (digits_value_more base xs i h))

pub digits_more : (base : ℕ) (xs : List ℕ) (i : ℕ) → i < length xs → list_all (λ byte. is_digit byte base) (take i xs) ≡ true → digit_value (get_or xs i 0) < base → list_all (λ byte. is_digit byte base) (take (i + 1) xs) ≡ true
digits_more base xs i h all small =
    let here : ltb (digit_value (get_or xs i 0)) base ≡ true = grind (arith, nat_tests) in
    list_all_more (λ byte. is_digit byte base) xs i 0 h ∙ (ap (λ b. b && is_digit (get_or xs i 0) base) all ∙ here)

pub some_at_end : (base : ℕ) (xs : List ℕ) (i value : ℕ) → 0 < length xs → i ≡ length xs → value ≡ digits_value base (take i xs) → list_all (λ byte. is_digit byte base) (take i xs) ≡ true → value < 2 ^ 64 → Some value ≡ in_base base xs
some_at_end base xs i value p e is all small =
    let whole : take i xs ≡ xs = take_all i xs (omega (arith, e)) in
    let number : value ≡ digits_value base xs = is ∙ ap (digits_value base) whole in
    ap Some number ∙ sym (some_number base xs p (sym (ap (list_all (λ byte. is_digit byte base)) whole) ∙ all) (omega (arith, number, small)))

pub positive_by_test : (n : ℕ) (is_zero : Bool) → is_zero ≡ eqb n 0 → is_zero ≡ false → 0 < n
positive_by_test n is_zero e f = grind (arith, nat_tests)
