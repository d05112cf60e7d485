-- Members of lists, and what holds of one more of them.
use Rattle.std.proofs.Common.{◌≡◌, ℕ, zero, suc, ◌+◌, ◌<◌, List, [], ◌∷◌, ◌++◌, map, length, take, get_or, ap, ◌∙◌, subst, arith}
use Rattle.std.proofs.Common.{Vec, Global, sym}
use Rattle.std.specs.List.{AllByRecursion, Contains}
use Rattle.std.proofs.lemmas.List.{map-append, take_more}
use Rattle.jls_values.proofs.Lists.{in_rest, all_more}
use Rattle.jls_diff.specs.Parts.{Part}
use Rattle.jls_search.specs.Choices.{IsWhole, prefix_of}
use Rattle.jls_search.specs.Search.{files_of, lists_of}

module _ {X : Type 0} where
  -- the item at a place is a member
  pub is_member : (xs : List X) (i : ℕ) (x d : X) → i < length xs → get_or xs i d ≡ x → Contains xs x
  is_member [] i x d l e = absurd (omega (arith, l))
  is_member (y ∷ ys) zero x d l e = (0, omega arith, e)
  is_member (y ∷ ys) (suc i) x d l e = in_rest x y ys (is_member ys i x d (omega (arith, l)) e)

  -- of the items up to a place and of that one, up to the next
  pub all_one_more : (P : X → Type 0) (xs : List X) (i : ℕ) (d : X) → AllByRecursion P (take i xs) → i < length xs → P (get_or xs i d)
      → AllByRecursion P (take (i + 1) xs)
  all_one_more P xs i d h l p = rw (take_more xs i d l) (all_more P (take i xs) (get_or xs i d) h p)

  -- the images of the items up to the next place
  pub map_one_more : {Y : Type 0} (f : X → Y) (xs : List X) (i : ℕ) (d : X) → i < length xs
      → map f (take (i + 1) xs) ≡ map f (take i xs) ++ f (get_or xs i d) ∷ []
  map_one_more f xs i d l = ap (map f) (take_more xs i d l) ∙ map-append f (take i xs) (get_or xs i d ∷ [])

-- the choices of a splice, and the file that they make
pub whole_at : (ps : List Part) (vs : List (Vec ℕ Global)) (i : ℕ) (v d : Vec ℕ Global) → AllByRecursion (IsWhole ps) (lists_of vs)
    → i < length vs → v ≡ get_or vs i d → IsWhole ps v.items
whole_at ps [] i v d whole l e = absurd (omega (arith, l))
whole_at ps (w ∷ vs) zero v d whole l e = subst (λ (x : Vec ℕ Global). IsWhole ps x.items) (sym e) whole.0
whole_at ps (w ∷ vs) (suc i) v d whole l e = whole_at ps vs i v d whole.1 (omega (arith, l)) e

pub splices_one_more : (ps : List Part) (vs : List (Vec ℕ Global)) (i : ℕ) (v : Vec ℕ Global) → i < length vs → v ≡ get_or vs i v
    → files_of ps (lists_of (take (i + 1) vs)) ≡ files_of ps (lists_of (take i vs)) ++ prefix_of ps v.items ∷ []
splices_one_more ps vs i v l e =
    ap (files_of ps) (map_one_more (λ (x : Vec ℕ Global). x.items) vs i v l)
    ∙ map-append (prefix_of ps) (lists_of (take i vs)) ((get_or vs i v).items ∷ [])
    ∙ ap (λ (x : Vec ℕ Global). files_of ps (lists_of (take i vs)) ++ prefix_of ps x.items ∷ []) (sym e)
