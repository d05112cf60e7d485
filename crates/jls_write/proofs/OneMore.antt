-- What one number more adds to a list that is made number by number, and how long such a list is.
use Rattle.std.proofs.Common.{◌≡◌, ℕ, zero, suc, ◌+◌, ◌-◌, ◌*◌, ◌≤◌, List, ◌∷◌, ◌++◌, length, ap, sym, ◌∙◌, arith, add-zero, zero-add}
use Rattle.std.specs.List.{range_with_len, flat_map}
use Rattle.std.proofs.lemmas.Grind.{flat_map-append}
use Rattle.std.proofs.lemmas.List.{append-nil, length-append}
use Rattle.jls_values.proofs.Lists.{appended}

-- a range of numbers is its first ones, and then the others
pub range-append : (a m n : ℕ) → range_with_len a (m + n) ≡ range_with_len a m ++ range_with_len (a + m) n
range-append a zero n = ap (range_with_len a) (zero-add n) ∙ ap (λ k. range_with_len k n) (sym (add-zero a))
range-append a (suc m) n =
    let more : suc m + n ≡ suc (m + n) = omega arith in
    let same : a + 1 + m ≡ a + suc m = omega arith in
    ap (range_with_len a) more ∙ ap (λ t. a ∷ t) (range-append (a + 1) m n)
    ∙ ap (λ k. a ∷ (range_with_len (a + 1) m ++ range_with_len k n)) same

-- a list over two ranges, of which the second follows the first
pub flat_map_on : {X : Type 0} (f : ℕ → List X) (a m n : ℕ) → a ≤ m → m ≤ n
    → flat_map f (range_with_len a (n - a)) ≡ flat_map f (range_with_len a (m - a)) ++ flat_map f (range_with_len m (n - m))
flat_map_on f a m n low high =
    let all : n - a ≡ m - a + (n - m) = omega arith in
    let from : a + (m - a) ≡ m = omega arith in
    ap (λ k. flat_map f (range_with_len a k)) all ∙ ap (flat_map f) (range-append a (m - a) (n - m))
    ∙ flat_map-append f (range_with_len a (m - a)) (range_with_len (a + (m - a)) (n - m))
    ∙ ap (λ k. flat_map f (range_with_len a (m - a)) ++ flat_map f (range_with_len k (n - m))) from

-- a list that is made number by number is what the first numbers make, and then what the others do
pub two_parts : {X : Type 0} (f : ℕ → List X) (m n : ℕ) → m ≤ n
    → flat_map f (range_with_len 0 n) ≡ flat_map f (range_with_len 0 m) ++ flat_map f (range_with_len m (n - m))
two_parts f m n high =
    let all : n ≡ n - 0 = omega arith in
    let first : m - 0 ≡ m = omega arith in
    ap (λ k. flat_map f (range_with_len 0 k)) all ∙ flat_map_on f 0 m n (omega arith) high
    ∙ ap (λ k. flat_map f (range_with_len 0 k) ++ flat_map f (range_with_len m (n - m))) first

pub flat_map_one : {X : Type 0} (f : ℕ → List X) (k : ℕ) → flat_map f (range_with_len k (k + 1 - k)) ≡ f k
flat_map_one f k = let one : k + 1 - k ≡ 1 = omega arith in ap (λ n. flat_map f (range_with_len k n)) one ∙ append-nil (f k)

-- the list with one number more
pub flat_map_from_more : {X : Type 0} (f : ℕ → List X) (a k : ℕ) → a ≤ k
    → flat_map f (range_with_len a (k + 1 - a)) ≡ flat_map f (range_with_len a (k - a)) ++ f k
flat_map_from_more f a k low = flat_map_on f a k (k + 1) low (omega arith)
    ∙ ap (λ t. flat_map f (range_with_len a (k - a)) ++ t) (flat_map_one f k)

-- a list over the numbers below `all`, in three parts: those below `start`, those below `end`, and the rest
pub three_parts : {X : Type 0} (f : ℕ → List X) (start end all : ℕ) (part : List X) → start ≤ end → end ≤ all
    → part ≡ flat_map f (range_with_len start (end - start))
    → flat_map f (range_with_len 0 all) ≡ flat_map f (range_with_len 0 start) ++ part ++ flat_map f (range_with_len end (all - end))
three_parts f start end all part low high is =
    two_parts f end all high ∙ ap (λ t. t ++ flat_map f (range_with_len end (all - end)))
    (two_parts f start end low ∙ ap (λ t. flat_map f (range_with_len 0 start) ++ t) (sym is))

-- n lists of at most `most` elements each
pub length-flat_map-le : {X : Type 0} (f : ℕ → List X) (most : ℕ) → ((k : ℕ) → length (f k) ≤ most) → (a n : ℕ)
    → length (flat_map f (range_with_len a n)) ≤ n * most
length-flat_map-le f most each a zero = omega arith
length-flat_map-le f most each a (suc n) =
    let rest = length-flat_map-le f most each (a + 1) n in
    let both = length-append (f a) (flat_map f (range_with_len (a + 1) n)) in
    let here = each a in
    omega (arith, rest, both, here)

-- the part of one number more, put after
pub put_from_more : (f : ℕ → List ℕ) (a k : ℕ) (out now new : List ℕ) → a ≤ k
    → now ≡ out ++ flat_map f (range_with_len a (k - a)) → new ≡ now ++ f k → new ≡ out ++ flat_map f (range_with_len a (k + 1 - a))
put_from_more f a k out now new low so_far more =
    appended out (flat_map f (range_with_len a (k - a))) (f k) now new so_far more ∙ ap (λ t. out ++ t) (sym (flat_map_from_more f a k low))
