-- Marks: items with source numbers.
use Rattle.std.specs.Prelude.{ℕ, List, [], ◌∷◌, ◌++◌, map, filter}
use Rattle.std.specs.declared.cmp.Ordering.{Ordering}
use Rattle.std.specs.Ordering.{nat_cmp, eq_by_cmp, ordering_then}
use Rattle.jls_values.specs.OrderedSet as set

-- by the item, then by the number
abbrev pub mark_cmp : {K : Type 0} → (K → K → Ordering) → K × ℕ → K × ℕ → Ordering
mark_cmp R a b = ordering_then (R a.0 b.0) (nat_cmp a.1 b.1)

-- the source numbers of an item, in ascending order
abbrev pub sources_of : {K : Type 0} (R : K → K → Ordering) → set.OrderedSet (mark_cmp R) → K → List ℕ
sources_of R marks k = set.items (set.from_list {R = nat_cmp} (map (λ m. m.1) (filter (λ m. eq_by_cmp R k m.0) (set.items marks))))

-- the marks that items and their source numbers make
abbrev pub marks_of : {K : Type 0} → List (K × List ℕ) → List (K × ℕ)
marks_of [] = []
marks_of (k ∷ ks) = map (λ source. (k.0, source)) k.1 ++ marks_of ks
