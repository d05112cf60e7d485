-- The order of marks, and the source numbers of an item.
use Rattle.std.proofs.Common.{◌≡◌, ℕ, true, false, cond, ◌&&◌, ◌||◌, List, [], ◌∷◌, map, refl, ap, sym, ◌∙◌}
use Rattle.std.specs.Prelude.{filter}
use Rattle.std.specs.declared.cmp.Ordering.{Ordering}
use Rattle.std.specs.declared.cmp.Ordering.TheVariants.{Less, Equal, Greater}
use Rattle.std.specs.Cmp.{IsTotalOrder}
use Rattle.std.specs.List.{list_any}
use Rattle.std.specs.Ordering.{nat_cmp, eq_by_cmp, is_eq, ordering_then}
use Rattle.std.proofs.lemmas.Cmp.{nat_cmp_total, on_total, then_total}
use Rattle.std.proofs.lemmas.Map.Lookups.{CmpEqualImpliesEq, exact_unsigned, exact_pairs}
use Rattle.jls_values.specs.OrderedSet as set
use Rattle.jls_values.specs.OrderedSetLaws.{contains-items, contains-from_list}
use Rattle.jls_partial.specs.Marks.{mark_cmp}

-- marks are in a total order
pub mark_total : {K : Type 0} {R : K → K → Ordering} → IsTotalOrder R → IsTotalOrder (mark_cmp R)
mark_total {K} {R} o = then_total (on_total (λ (m : K × ℕ). m.0) o) (on_total (λ (m : K × ℕ). m.1) nat_cmp_total)

-- marks that tie are one
pub mark_exact : {K : Type 0} {R : K → K → Ordering} → CmpEqualImpliesEq R → CmpEqualImpliesEq (mark_cmp R)
mark_exact {K} {R} exact a b h = exact_pairs R nat_cmp exact exact_unsigned a b h

-- two marks are one exactly if they have one item and one number
pub eq_mark : {K : Type 0} (R : K → K → Ordering) (k l : K) (s t : ℕ) → eq_by_cmp (mark_cmp R) (k, s) (l, t)
    ≡ (eq_by_cmp R k l && eq_by_cmp nat_cmp s t)
eq_mark R k l s t = both (R k l) (nat_cmp s t)
  where
    both : (r q : Ordering) → is_eq (ordering_then r q) ≡ (is_eq r && is_eq q)
    both Less q = refl
    both Equal q = refl
    both Greater q = refl

-- a number is among the sources of an item exactly if the item has that mark
any_of_item : {K : Type 0} (R : K → K → Ordering) (k : K) (s : ℕ) (ms : List (K × ℕ))
    → list_any (eq_by_cmp nat_cmp s) (map (λ m. m.1) (filter (λ m. eq_by_cmp R k m.0) ms)) ≡ list_any (eq_by_cmp (mark_cmp R) (k, s)) ms
any_of_item R k s [] = refl
any_of_item {K} R k s (m ∷ ms) =
    elim (eq_by_cmp R k m.0) as (λ b. eq_by_cmp R k m.0 ≡ b →
    list_any (eq_by_cmp nat_cmp s)
    (map (λ (m : K × ℕ). m.1) (cond b (m ∷ filter (λ (m : K × ℕ). eq_by_cmp R k m.0) ms)
    (filter (λ (m : K × ℕ). eq_by_cmp R k m.0) ms)))
    ≡ (eq_by_cmp (mark_cmp R) (k, s) m || list_any (eq_by_cmp (mark_cmp R) (k, s)) ms)) [
      | true ↦ λ e. (λ i. eq_by_cmp nat_cmp s m.1 || any_of_item R k s ms i)
          ∙ ap (λ b. b || list_any (eq_by_cmp (mark_cmp R) (k, s)) ms)
          (sym (eq_mark R k m.0 s m.1 ∙ ap (λ b. b && eq_by_cmp nat_cmp s m.1) e))
      | false ↦ λ e. any_of_item R k s ms
          ∙ ap (λ b. b || list_any (eq_by_cmp (mark_cmp R) (k, s)) ms)
          (sym (eq_mark R k m.0 s m.1 ∙ ap (λ b. b && eq_by_cmp nat_cmp s m.1) e))
    ] refl

-- a number is among the sources of an item if and only if the item has that mark
pub contains-sources_of : {K : Type 0} (R : K → K → Ordering) (marks : set.OrderedSet (mark_cmp R)) (k : K) (s : ℕ)
    → set.contains (set.from_list {R = nat_cmp} (map (λ m. m.1) (filter (λ m. eq_by_cmp R k m.0) (set.items marks)))) s
    ≡ set.contains marks (k, s)
contains-sources_of R marks k s = contains-from_list nat_cmp_total _ s ∙ any_of_item R k s (set.items marks)
    ∙ sym (contains-items marks (k, s))
