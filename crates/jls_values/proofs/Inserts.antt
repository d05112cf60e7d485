-- One item that is put into a list: its image, what holds of each item, which tests one passes, and an item that none is.
use Rattle.std.proofs.Common.{◌≡◌, ℕ, zero, suc, ◌≤◌, ◌<◌, Bool, true, false, ◌||◌, List, [], ◌∷◌, length, get_or, map, refl}
use Rattle.std.proofs.Common.{ap, ◌∙◌, arith}
use Rattle.std.specs.declared.cmp.Ordering.{Ordering}
use Rattle.std.specs.declared.cmp.Ordering.TheVariants.{Less}
use Rattle.std.specs.Cmp.{IsTotalOrder}
use Rattle.std.specs.Ordering.{eq_by_cmp, is_eq, ordering_reverse}
use Rattle.std.specs.List.{list_any, insert, AllByRecursion}

-- the image of a list with an item put in
pub map-insert : {A B : Type 0} (f : A → B) (xs : List A) (i : ℕ) (x : A) → i ≤ length xs
    → map f (insert xs i x) ≡ insert (map f xs) i (f x)
map-insert f xs zero x le = refl
map-insert f [] (suc i) x le = absurd (omega arith)
map-insert f (y ∷ xs) (suc i) x le = ap (λ t. f y ∷ t) (map-insert f xs i x (omega arith))

-- what holds of all items and of one more holds with it put in
pub all-insert : {A : Type 0} (P : A → Type 0) (xs : List A) (i : ℕ) (x : A) → i ≤ length xs → AllByRecursion P xs → P x
    → AllByRecursion P (insert xs i x)
all-insert P xs zero x le h p = (p, h)
all-insert P [] (suc i) x le h p = absurd (omega arith)
all-insert P (y ∷ xs) (suc i) x le h p = (h.0, all-insert P xs i x (omega arith) h.1 p)

-- a test passes some item of a list with one more exactly where it passes that one or one of the list
pub any-insert : {A : Type 0} (p : A → Bool) (xs : List A) (i : ℕ) (x : A) → i ≤ length xs
    → list_any p (insert xs i x) ≡ (p x || list_any p xs)
any-insert p xs zero x le = refl
any-insert p [] (suc i) x le = absurd (omega arith)
any-insert p (y ∷ xs) (suc i) x le = ap (λ b. p y || b) (any-insert p xs i x (omega arith)) ∙ turn (p y) (p x) (list_any p xs)
  where
    turn : (a b c : Bool) → (a || (b || c)) ≡ (b || (a || c))
    turn true true c = refl
    turn true false c = refl
    turn false b c = refl

-- an item that those before a place are below, and those from there on above, is none of them
pub none_at_gap : {K : Type 0} {R : K → K → Ordering} → IsTotalOrder R → (xs : List K) (i : ℕ) (x d : K)
    → ((k : ℕ) → k < i → k < length xs → R (get_or xs k d) x ≡ Less) → ((k : ℕ) → i ≤ k → k < length xs → R x (get_or xs k d) ≡ Less)
    → list_any (eq_by_cmp R x) xs ≡ false
none_at_gap o [] i x d below above = refl
none_at_gap {K} {R} o (y ∷ xs) zero x d below above =
    ap (λ b. b || list_any (eq_by_cmp R x) xs) (ap is_eq (above 0 (omega arith) (omega arith)))
    ∙ none_at_gap o xs zero x d (λ k lt inside. absurd (omega arith)) (λ k le lt. above (suc k) (omega arith) (omega arith))
none_at_gap {K} {R} o (y ∷ xs) (suc i) x d below above =
    ap (λ b. b || list_any (eq_by_cmp R x) xs) (ap is_eq (o.antisymm x y ∙ ap ordering_reverse (below 0 (omega arith) (omega arith))))
    ∙ none_at_gap o xs i x d (λ k lt inside. below (suc k) (omega arith) (omega arith))
    (λ k le lt. above (suc k) (omega arith) (omega arith))
