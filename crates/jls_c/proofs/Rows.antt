-- Rows of one length, one after the other, and a list whose prefix they take row by row.
use Rattle.std.proofs.Common.{◌≡◌, ℕ, zero, suc, ◌+◌, ◌*◌, ◌<◌, ◌≤◌, List, [], ◌∷◌, ◌++◌, length, map, take, drop, ap, sym, ◌∙◌, arith}
use Rattle.std.proofs.Common.{zero-add}
use Rattle.std.proofs.Math.Nat.{suc-mul}
use Rattle.std.specs.List.{range_with_len, flat_map}
use Rattle.std.proofs.lemmas.List.{append_assoc, length-append, take_at, drop_at, drop-drop, length-map, length-take, take_all}
use Rattle.std.proofs.lemmas.List.FromFn.{map-range_with_len_more}
use borrow.Rule.Slice.PartMut.{put_mid}
use Rattle.jls_values.proofs.Lists.{flat_map_more}

-- how long they are
pub length_rows : {X : Type 0} (f : ℕ → List X) (w n : ℕ) → ((k : ℕ) → k < n → length (f k) ≡ w)
    → length (flat_map f (range_with_len 0 n)) ≡ n * w
length_rows f w zero each = omega arith
length_rows f w (suc n) each =
    let more : suc n ≡ n + 1 = omega arith in
    let here = each n (omega arith) in
    let rest = length_rows f w n (λ k below. each k (omega arith)) in
    let both = ap (λ m. length (flat_map f (range_with_len 0 m))) more
    ∙ (ap length (flat_map_more f n) ∙ length-append (flat_map f (range_with_len 0 n)) (f n)) in
    let product = suc-mul n w in
    let all : length (flat_map f (range_with_len 0 n)) + length (f n) ≡ suc n * w = omega (arith, here, rest, product) in
    both ∙ all

-- a list whose prefix is taken by so many rows, and by one row more, which is written after those before it
pub put_row : {X : Type 0} (f : ℕ → List X) (w k a m : ℕ) (old now new row : List X) → length (flat_map f (range_with_len 0 k)) ≡ k * w
    → now ≡ flat_map f (range_with_len 0 k) ++ drop (k * w) old → row ≡ f k → a ≡ k * w → m ≡ w → new ≡ put_mid a m now row
    → new ≡ flat_map f (range_with_len 0 (k + 1)) ++ drop ((k + 1) * w) old
put_row f w k a m old now new row long so_far is at wide put =
    let prefix = flat_map f (range_with_len 0 k) in
    let here : length prefix ≡ a = long ∙ sym at in
    let before : take a now ≡ prefix = ap (take a) so_far ∙ take_at prefix (drop (k * w) old) a here in
    let following : drop a now ≡ drop (k * w) old = ap (drop a) so_far ∙ drop_at prefix (drop (k * w) old) a here in
    let end : k * w + m ≡ (k + 1) * w = let one : k + 1 ≡ suc k = omega arith in
    ap (λ n. k * w + n) wide ∙ (sym (suc-mul k w) ∙ ap (λ n. n * w) (sym one)) in
    let rest : drop m (drop a now) ≡ drop ((k + 1) * w) old = ap (drop m) following
    ∙ (drop-drop m (k * w) old ∙ ap (λ n. drop n old) end) in
    put ∙ (ap (λ t. t ++ (row ++ drop m (drop a now))) before ∙ (ap (λ t. prefix ++ (row ++ t)) rest
    ∙ (ap (λ t. prefix ++ (t ++ drop ((k + 1) * w) old)) is ∙ (sym (append_assoc prefix (f k) (drop ((k + 1) * w) old))
    ∙ ap (λ t. t ++ drop ((k + 1) * w) old) (sym (flat_map_more f k))))))

-- one row more, and how long they are then
pub length_rows_more : {X : Type 0} (f : ℕ → List X) (w k : ℕ) (row : List X) → length (flat_map f (range_with_len 0 k)) ≡ k * w
    → row ≡ f k → length row ≡ w → length (flat_map f (range_with_len 0 (k + 1))) ≡ (k + 1) * w
length_rows_more f w k row long is wide =
    let both = ap length (flat_map_more f k) ∙ length-append (flat_map f (range_with_len 0 k)) (f k) in
    let here : length (f k) ≡ w = sym (ap length is) ∙ wide in
    let one : k + 1 ≡ suc k = omega arith in
    let product = ap (λ n. n * w) one ∙ suc-mul k w in
    let all : length (flat_map f (range_with_len 0 k)) + length (f k) ≡ (k + 1) * w = omega (arith, here, long, product) in
    both ∙ all

-- one number more, for lists of one element each
pub numbers_more : {X : Type 0} (f : ℕ → X) (n : ℕ) → map f (range_with_len 0 (n + 1)) ≡ map f (range_with_len 0 n) ++ f n ∷ []
numbers_more f n = map-range_with_len_more f 0 n n (zero-add n)

-- what is written to the start of a list leaves the rest
pub prefix_put : {X : Type 0} (k m : ℕ) (old row new : List X) → k ≡ 0 → length row ≡ m → new ≡ put_mid k m old row
    → new ≡ row ++ drop (length row) old
prefix_put k m old row new first long put =
    let prefix : take k old ≡ [] = ap (λ n. take n old) first in
    let rest : drop k old ≡ old = ap (λ n. drop n old) first in
    put ∙ (ap (λ t. t ++ (row ++ drop m (drop k old))) prefix ∙ (ap (λ t. row ++ drop m t) rest ∙ ap (λ n. row ++ drop n old) (sym long)))

-- so many elements of a shorter list are all of them
pub take_whole : {X : Type 0} (xs : List X) (n : ℕ) → length xs ≤ n → xs ≡ take n xs
take_whole xs n few = sym (take_all n xs few)

-- what is made of the first elements is no longer than they are many
pub few_taken : {X Y : Type 0} (f : X → Y) (n : ℕ) (xs : List X) → length (map f (take n xs)) ≤ n
few_taken f n xs = let long = length-map (take n xs) f in let few = length-take n xs in omega (arith, long, few)

-- a number more, put after those before it
pub numbers_pushed : {X : Type 0} (f : ℕ → X) (k : ℕ) (before new : List X) (x : X) → new ≡ (before ++ map f (range_with_len 0 k)) ++ x ∷ []
    → x ≡ f k → new ≡ before ++ map f (range_with_len 0 (k + 1))
numbers_pushed f k before new x put is =
    put ∙ (append_assoc before (map f (range_with_len 0 k)) (x ∷ []) ∙ (ap (λ z. before ++ (map f (range_with_len 0 k) ++ z ∷ [])) is
    ∙ ap (λ t. before ++ t) (sym (numbers_more f k))))
