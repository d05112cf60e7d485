-- The orders of places and of readings.
use Rattle.std.proofs.Common.{◌≡◌, ℕ, true, ◌&&◌, List, refl, ap}
use Rattle.std.specs.declared.cmp.Ordering.{Ordering}
use Rattle.std.specs.declared.cmp.Ordering.TheVariants.{Less, Equal, Greater}
use Rattle.std.specs.Ordering.{nat_cmp, is_eq, eq_by_cmp, ordering_then}
use Rattle.std.specs.Cmp.{IsTotalOrder}
use Rattle.std.specs.Cmp.Lexicographic.{slice_cmp}
use Rattle.std.proofs.lemmas.Cmp.{nat_cmp_total, nat_list_cmp_total, on_total, then_total}
use Rattle.std.proofs.lemmas.Map.Lookups.{CmpEqualImpliesEq, exact_unsigned, exact_bytes, exact_pairs}
use Rattle.jls_partial.specs.declared.line_place.LinePlace.{LinePlace}
use Rattle.jls_partial.specs.MarkLaws.{mark_total, mark_exact}
use Rattle.jls_partial.specs.Marks.{mark_cmp}
use Rattle.jls_partial.specs.LinePlace.{place_cmp, place_of}
use Rattle.jls_partial.specs.Reading.{Reading, reading_cmp}

-- places are in a total order
pub place_total : IsTotalOrder place_cmp
place_total = then_total (on_total (λ (p : LinePlace). p.component) nat_cmp_total) (on_total (λ (p : LinePlace). p.line) nat_cmp_total)

-- places that tie are one
pub place_exact : CmpEqualImpliesEq place_cmp
place_exact a b h = ap (λ (p : ℕ × ℕ). record { component = p.0; line = p.1 })
    (exact_pairs nat_cmp nat_cmp exact_unsigned exact_unsigned (a.component, a.line) (b.component, b.line) h)

-- readings are in a total order
pub reading_total : IsTotalOrder reading_cmp
reading_total = then_total (on_total (λ (r : Reading). r.component) nat_cmp_total)
    (then_total (on_total (λ (r : Reading). r.line) nat_cmp_total) (on_total (λ (r : Reading). r.samples) nat_list_cmp_total))

-- the order of what follows the component
abbrev rest_cmp : ℕ × List ℕ → ℕ × List ℕ → Ordering
rest_cmp x y = ordering_then (nat_cmp x.0 y.0) (slice_cmp nat_cmp x.1 y.1)

-- what ties in it is one
rest_exact : CmpEqualImpliesEq rest_cmp
rest_exact x y = exact_pairs nat_cmp (slice_cmp nat_cmp) exact_unsigned exact_bytes x y

-- readings that tie are one
pub reading_exact : CmpEqualImpliesEq reading_cmp
reading_exact a b h = ap (λ (p : ℕ × (ℕ × List ℕ)). record { component = p.0; line = p.1.0; samples = p.1.1 })
    (exact_pairs nat_cmp rest_cmp exact_unsigned rest_exact (a.component, (a.line, a.samples)) (b.component, (b.line, b.samples)) h)

-- three orders tie where the first two do, and the third
three : (r s t : Ordering) → is_eq (ordering_then r (ordering_then s t)) ≡ (is_eq (ordering_then r s) && is_eq t)
three Less s t = refl
three Equal Less t = refl
three Equal Equal t = refl
three Equal Greater t = refl
three Greater s t = refl

-- two readings are one exactly if they have one place and one list of samples
pub eq_reading : (r : Reading) (p : LinePlace) (x : List ℕ)
    → eq_by_cmp reading_cmp r (record { component = p.component; line = p.line; samples = x })
    ≡ (eq_by_cmp place_cmp (place_of r) p && eq_by_cmp (slice_cmp nat_cmp) r.samples x)
eq_reading r p x = three (nat_cmp r.component p.component) (nat_cmp r.line p.line) (slice_cmp nat_cmp r.samples x)

-- the test for a tie
is_equal : (r : Ordering) → is_eq r ≡ true → r ≡ Equal
is_equal Less e = absurd cc
is_equal Equal e = refl
is_equal Greater e = absurd cc

-- places, sample lists and readings that the test finds tied are one
pub same_place : (p q : LinePlace) → eq_by_cmp place_cmp p q ≡ true → p ≡ q
same_place p q e = place_exact p q (is_equal (place_cmp p q) e)

-- sample lists that the test finds tied are one
pub same_samples : (x y : List ℕ) → eq_by_cmp (slice_cmp nat_cmp) x y ≡ true → x ≡ y
same_samples x y e = exact_bytes x y (is_equal (slice_cmp nat_cmp x y) e)

-- readings that the test finds tied are one
pub same_reading : (x y : Reading) → eq_by_cmp reading_cmp x y ≡ true → x ≡ y
same_reading x y e = reading_exact x y (is_equal (reading_cmp x y) e)

-- marks of readings are in a total order, and marks that tie are one
pub marks_total : IsTotalOrder (mark_cmp reading_cmp)
marks_total = mark_total reading_total

-- marks of readings that tie are one
pub marks_exact : CmpEqualImpliesEq (mark_cmp reading_cmp)
marks_exact = mark_exact reading_exact
