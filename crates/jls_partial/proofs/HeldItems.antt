-- The test of a list of items of an order, and of readings, tells its members.
use Rattle.std.proofs.Common.{◌≡◌, true, List, [], ◌∷◌, sym, ap, subst, inl, inr}
use Rattle.std.specs.List.{list_any, Contains}
use Rattle.std.specs.declared.cmp.Ordering.{Ordering}
use Rattle.std.specs.Ordering.{eq_by_cmp, is_eq}
use Rattle.std.specs.Cmp.{IsTotalOrder}
use Rattle.std.proofs.lemmas.Bool.{or_left, or_right}
use Rattle.std.proofs.lemmas.Cmp.{tied_itself}
use Rattle.std.proofs.lemmas.Map.Lookups.{CmpEqualImpliesEq}
use Rattle.jls_values.proofs.Lists.{is_first, in_rest, none_in, first_or_rest}
use Rattle.jls_values.proofs.Tests.{tied, either}
use Rattle.jls_partial.specs.Reading.{Reading, reading_cmp}
use Rattle.jls_partial.specs.ReadingOrder.{reading_total, reading_exact}

-- the test of a list tells its members
module _ {K : Type 0} {R : K → K → Ordering} (total : IsTotalOrder R) (exact : CmpEqualImpliesEq R) where
  -- two items that compare as tied are one
  one_item : (x y : K) → eq_by_cmp R x y ≡ true → x ≡ y
  one_item x y e = exact x y (tied (R x y) e)

  -- a member of a list is one by the test
  pub any_of_item : (ks : List K) (k : K) → Contains ks k → list_any (eq_by_cmp R k) ks ≡ true
  any_of_item [] k c = absurd (none_in k c)
  any_of_item (q ∷ qs) k c =
      elim (first_or_rest k q qs c) [
        | inl e ↦ or_left (eq_by_cmp R k q) _ (subst (λ x. eq_by_cmp R k x ≡ true) (sym e) (ap is_eq (tied_itself total k)))
        | inr later ↦ or_right (eq_by_cmp R k q) _ (any_of_item qs k later)
      ]

  -- an item that passes the test of a list is a member
  pub item_of_any : (ks : List K) (k : K) → list_any (eq_by_cmp R k) ks ≡ true → Contains ks k
  item_of_any [] k e = absurd cc
  item_of_any (q ∷ qs) k e =
      either (Contains (q ∷ qs) k) (eq_by_cmp R k q) (list_any (eq_by_cmp R k) qs)
      (λ here. subst (λ x. Contains (q ∷ qs) x) (sym (one_item k q here)) (is_first q qs))
      (λ later. in_rest k q qs (item_of_any qs k later)) e

pub any_of_member : (rs : List Reading) (r : Reading) → Contains rs r → list_any (eq_by_cmp reading_cmp r) rs ≡ true
any_of_member = any_of_item reading_total reading_exact

pub member_of_any : (rs : List Reading) (r : Reading) → list_any (eq_by_cmp reading_cmp r) rs ≡ true → Contains rs r
member_of_any = item_of_any reading_total reading_exact
