-- What one number more adds to a range of numbers, and to lists and sums over it.
use Rattle.std.proofs.Common.{◌≡◌, ℕ, ◌+◌, Bool, ◌<◌, cond, List, [], ◌∷◌, ◌++◌, length, take, get_or, ap, sym, ◌∙◌}
use Rattle.std.proofs.lemmas.List.{append-nil, take_more}
use Rattle.std.specs.List.{range_with_len, flat_map, sum_by, count_by}
use Rattle.std.proofs.lemmas.Grind.{flat_map-append}
use Rattle.std.proofs.lemmas.List.Sums.{sum_by_push}
use Rattle.jls_values.proofs.Lists.{from_zero}

pub sum_by_more : (f : ℕ → ℕ) (n : ℕ) → sum_by f (range_with_len 0 (n + 1)) ≡ sum_by f (range_with_len 0 n) + f n
sum_by_more f n = ap (sum_by f) (from_zero n) ∙ sum_by_push f (range_with_len 0 n) n

pub count_by_more : (p : ℕ → Bool) (n : ℕ) → count_by p (range_with_len 0 (n + 1)) ≡ count_by p (range_with_len 0 n) + cond (p n) 1 0
count_by_more p n = sum_by_more (λ x. cond (p x) 1 0) n

-- one element more of a list adds what it gives
pub flat_map_take_more : {X Y : Type 0} (f : X → List Y) (xs : List X) (i : ℕ) (x : X) → i < length xs → x ≡ get_or xs i x
    → flat_map f (take (i + 1) xs) ≡ flat_map f (take i xs) ++ f x
flat_map_take_more f xs i x within is =
    ap (flat_map f) (take_more xs i x within) ∙ flat_map-append f (take i xs) (get_or xs i x ∷ [])
    ∙ ap (λ t. flat_map f (take i xs) ++ t) (append-nil (f (get_or xs i x)) ∙ ap f (sym is))
