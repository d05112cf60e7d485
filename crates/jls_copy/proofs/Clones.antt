-- A picture that takes all of another, and had nothing before.
use Rattle.std.proofs.Common.{◌≡◌, ◌||◌, ◌∙◌, ap}
use Rattle.std.specs.declared.cmp.Ordering.{Ordering}
use Rattle.std.specs.Cmp.{IsTotalOrder}
use Rattle.std.specs.FinMap.{IsAntisymmetric}
use Rattle.jls_values.specs.OrderedSet as set
use Rattle.jls_values.specs.OrderedSetLaws.{contains-union, contains-empty, same_set}
use Rattle.jls_partial.specs.Partial.{PartialPicture, nothing_known, union}
use Rattle.jls_partial.specs.ReadingOrder.{reading_total, reading_exact, marks_total, marks_exact}

-- the union of nothing and a set is the set
union_of_empty : {K : Type 0} {R : K → K → Ordering} → IsTotalOrder R → IsAntisymmetric R → (s : set.OrderedSet R)
    → set.union set.empty s ≡ s
union_of_empty {R = R} o exact s =
    same_set o exact _ _ (λ q. contains-union o set.empty s q ∙ ap (λ b. b || set.contains s q) (contains-empty R q))

-- the union of a picture of which nothing is known and another is the other
pub union_of_nothing : (p : PartialPicture) → union (nothing_known p.shape) p ≡ p
union_of_nothing p = λ i. record {
  shape = p.shape;
  readings = union_of_empty reading_total reading_exact p.readings i;
  marks = union_of_empty marks_total marks_exact p.marks i;
}
