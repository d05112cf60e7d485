-- The sizes of a shape: none is out of range exactly where all are in range.
use Rattle.std.proofs.Common.{◌≡◌, ℕ, zero, suc, ◌≤◌, Bool, true, false, cond, eqb, Option, Some, None, refl, arith}
use Rattle.std.specs.Prelude.{◌||◌, nat_lt}
use Rattle.std.proofs.lemmas.Bool.{ltb-false, ne_eqb, le-ltb, or_parts, or_from}
use Rattle.jls_values.specs.ShapeOf.{size_fault}
use Rattle.jls_values.specs.declared.shape.ShapeFault.{ShapeFault}

-- no size is out of range
pub sizes_in_range : (p x y n : ℕ) → size_fault p x y n ≡ None → ((2 ≤ p) × (p ≤ 16)) × ((1 ≤ x) × (1 ≤ y)) × ((1 ≤ n) × (n ≤ 4))
sizes_in_range p x y n e =
    let a = first_none (nat_lt p 2 || nat_lt 16 p) _ _ e in
    let b = first_none (eqb x 0) _ _ a.1 in
    let c = first_none (eqb y 0) _ _ b.1 in
    let d = first_none (eqb n 0 || nat_lt 4 n) _ _ c.1 in
    let ps = or_parts (nat_lt p 2) (nat_lt 16 p) a.0 in
    let ns = or_parts (eqb n 0) (nat_lt 4 n) d.0 in
    ((ltb-false _ _ ps.0, ltb-false _ _ ps.1), (positive x b.0, positive y c.0), (positive n ns.0, ltb-false _ _ ns.1))
  where
    first_none : (b : Bool) (f : ShapeFault) (o : Option ShapeFault) → cond b (Some f) o ≡ None → (b ≡ false) × (o ≡ None)
    first_none true f o e = absurd cc
    first_none false f o e = (refl, e)

    positive : (n : ℕ) → eqb n 0 ≡ false → 1 ≤ n
    positive zero e = absurd cc
    positive (suc n) e = omega arith

-- sizes in range have no fault
pub no_size_fault : (p x y n : ℕ) → 2 ≤ p → p ≤ 16 → 1 ≤ x → 1 ≤ y → 1 ≤ n → n ≤ 4 → size_fault p x y n ≡ None
no_size_fault p x y n p2 p16 x1 y1 n1 n4 =
    let a : (nat_lt p 2 || nat_lt 16 p) ≡ false = or_from _ _ (le-ltb _ _ p2) (le-ltb _ _ p16) in
    let b : eqb x 0 ≡ false = ne_eqb x 0 (λ e. absurd (omega (arith, e, x1))) in
    let c : eqb y 0 ≡ false = ne_eqb y 0 (λ e. absurd (omega (arith, e, y1))) in
    let d : (eqb n 0 || nat_lt 4 n) ≡ false = or_from _ _ (ne_eqb n 0 (λ e. absurd (omega (arith, e, n1)))) (le-ltb _ _ n4) in
    rw (a, b, c, d) refl
