-- Lists of values with keys: what is looked up in them, and what holds at each key where the keys rise.
use Rattle.std.proofs.Common.{◌≡◌, Bool, true, false, cond, List, [], ◌∷◌, map, Option, Some, None, refl, ap, sym, subst}
use Rattle.std.specs.Prelude.{IfSome}
use Rattle.std.specs.declared.cmp.Ordering.{Ordering}
use Rattle.std.specs.declared.cmp.Ordering.TheVariants.{Less}
use Rattle.std.specs.BTreeMap.{is_at}
use Rattle.std.specs.Cmp.{IsTotalOrder}
use Rattle.std.specs.List.{AllByRecursion}
use Rattle.std.specs.List.Sorted.{IsStrictlySortedBy}
use Rattle.std.specs.Map.{lookup}
use Rattle.std.specs.Option.{option_map}
use Rattle.std.specs.Ordering.{eq_by_cmp, is_eq}
use Rattle.std.proofs.lemmas.Cmp.{tied_itself}

-- a list whose values are seen by f
module _ {K X Y : Type 0} (f : X → Y) where
  -- what is looked up in a mapped list is the mapped value
  pub lookup-map : (t : K → Bool) (es : List (K × X)) → lookup t (map (λ e. (e.0, f e.1)) es) ≡ option_map f (lookup t es)
  lookup-map t [] = refl
  lookup-map t (e ∷ es) =
      elim (t e.0) as (λ b. cond b (Some (f e.1)) (lookup t (map (λ e. (e.0, f e.1)) es))
      ≡ option_map f (cond b (Some e.1) (lookup t es))) [
        | true ↦ refl
        | false ↦ lookup-map t es
      ]

-- ---- keys that rise

module _ {K : Type 0} {R : K → K → Ordering} (total : IsTotalOrder R) (same : (p q : K) → eq_by_cmp R p q ≡ true → p ≡ q) where
  -- a key that is below all others is none of them
  none_later : {X : Type 0} (p : K) (es : List (K × X)) → AllByRecursion (λ q. R p q ≡ Less) (map (λ e. e.0) es) → lookup (is_at (R p)) es
      ≡ None
  none_later p [] h = refl
  none_later p (e ∷ es) h = rw h.0 (none_later p es h.1)

  pub none_by : {X : Type 0} (q p : K) (es : List (K × X)) → is_at (R q) p ≡ true → AllByRecursion (λ q. R p q ≡ Less) (map (λ e. e.0) es)
      → lookup (is_at (R q)) es ≡ None
  none_by q p es e h = subst (λ (z : K). lookup (is_at (R z)) es ≡ None) (sym (same q p e)) (none_later p es h)

  -- what holds at each key
  pub each_by : {X : Type 0} (P : K × X → Type 0) (es : List (K × X)) → IsStrictlySortedBy R (map (λ e. e.0) es)
      → ((q : K) → IfSome (lookup (is_at (R q)) es) (λ xs. P (q, xs))) → AllByRecursion P es
  unfolding IsStrictlySortedBy
  each_by {X} P [] h f = tt
  each_by {X} P (e ∷ es) h f = (
    subst (λ b. IfSome (cond b (Some e.1) (lookup (is_at (R e.0)) es)) (λ xs. P (e.0, xs))) (ap is_eq (tied_itself total e.0)) (f e.0),
    each_by P es h.1 (λ q. elim (is_at (R q) e.0) as (λ b. is_at (R q) e.0 ≡ b
        → IfSome (cond b (Some e.1) (lookup (is_at (R q)) es)) (λ xs. P (q, xs)) → IfSome (lookup (is_at (R q)) es) (λ xs. P (q, xs))) [
          | true ↦ λ t g. subst (λ (o : Option X). IfSome o (λ xs. P (q, xs))) (sym (none_by q e.0 es t h.0)) tt
          | false ↦ λ t g. g
        ] refl (f q)),
  )

  -- what holds of each entry holds of the one that is looked up
  pub lookup_by : {X : Type 0} (P : K × X → Type 0) (es : List (K × X)) (q : K) → AllByRecursion P es
      → IfSome (lookup (is_at (R q)) es) (λ xs. P (q, xs))
  lookup_by P [] q h = tt
  lookup_by P (e ∷ es) q h =
      elim (is_at (R q) e.0) as (λ b. is_at (R q) e.0 ≡ b → IfSome (cond b (Some e.1) (lookup (is_at (R q)) es)) (λ xs. P (q, xs))) [
        | true ↦ λ t. subst (λ (z : K). P (z, e.1)) (sym (same q e.0 t)) h.0
        | false ↦ λ t. lookup_by P es q h.1
      ] refl
