-- The union of partials is a join.
use Rattle.std.specs.Prelude.{◌≡◌, ℕ, true, ◌==◌, nat_eq, List, [], ◌∷◌}
use Rattle.std.proofs.Common.{refl, subst}
use Rattle.std.specs.Cmp.{nat_eq_equiv, both_ways}
use Rattle.std.specs.Cmp.Lexicographic.{pointwise}
use Rattle.std.proofs.lemmas.Bool.{eqb-true, and_parts}
use Rattle.jls_values.specs.Shape.{PictureShape}
use Rattle.jls_values.specs.SameShape.{same_shape}
use Rattle.jls_values.specs.Join.{JoinLaws}
use Rattle.jls_partial.specs.Partial.{has_same_shape, union}
use Rattle.jls_partial.specs.ReadingOrder.{reading_total, reading_exact, marks_total, marks_exact}
use Rattle.jls_values.specs.OrderedSetLaws.{union-idempotent, union-commutative, union-associative}

-- a number passes the test with itself
pub eqb_itself : (n : ℕ) → (n == n) ≡ true
eqb_itself n = nat_eq_equiv.refl n

-- lists that the test finds equal are one
pub same_list : (xs ys : List ℕ) → pointwise nat_eq xs ys ≡ true → xs ≡ ys
same_list [] [] e = refl
same_list [] (y ∷ ys) e = absurd cc
same_list (x ∷ xs) [] e = absurd cc
same_list (x ∷ xs) (y ∷ ys) e = let p = and_parts (nat_eq x y) (pointwise nat_eq xs ys) e in
    (λ i. eqb-true x y p.0 i ∷ same_list xs ys p.1 i)

-- a list passes the test with itself
pub itself_list : (xs : List ℕ) → pointwise nat_eq xs xs ≡ true
itself_list [] = refl
itself_list (x ∷ xs) = rw (eqb_itself x) (itself_list xs)

-- shapes that pass the test are one
pub one_shape : (s t : PictureShape) → same_shape s t ≡ true → s ≡ t
one_shape s t e =
    let p = and_parts _ (pointwise nat_eq s.ids t.ids) e in
    let q = and_parts _ (s.height == t.height) p.0 in
    let r = and_parts (s.precision == t.precision) (s.width == t.width) q.0 in
    λ i. record {
      precision = eqb-true s.precision t.precision r.0 i;
      width = eqb-true s.width t.width r.1 i;
      height = eqb-true s.height t.height q.1 i;
      ids = same_list s.ids t.ids p.1 i;
    }

-- a shape passes the test with itself
pub shape_itself : (s : PictureShape) → same_shape s s ≡ true
shape_itself s = rw (eqb_itself s.precision, eqb_itself s.width, eqb_itself s.height) (itself_list s.ids)

-- the test does not depend on the order
shape_turned : (s t : PictureShape) → same_shape s t ≡ true → same_shape t s ≡ true
shape_turned s t e = subst (λ (z : PictureShape). same_shape z s ≡ true) (one_shape s t e) (shape_itself s)

-- the laws of the join
pub partial_laws : JoinLaws has_same_shape union
partial_laws = record {
  reflexive = λ x. shape_itself x.shape;
  symmetric = λ x y. both_ways (has_same_shape x y) (has_same_shape y x) (shape_turned x.shape y.shape) (shape_turned y.shape x.shape);
  transitive = λ x y z f g. subst (λ (w : PictureShape). same_shape x.shape w ≡ true) (one_shape y.shape z.shape g) f;
  join_same_shape = λ x y f. shape_itself x.shape;
  idempotent = λ x. λ i. record {
    shape = x.shape;
    readings = union-idempotent reading_total reading_exact x.readings i;
    marks = union-idempotent marks_total marks_exact x.marks i;
  };
  commutative = λ x y f. λ i. record {
    shape = one_shape x.shape y.shape f i;
    readings = union-commutative reading_total reading_exact x.readings y.readings i;
    marks = union-commutative marks_total marks_exact x.marks y.marks i;
  };
  associative = λ x y z f g. λ i. record {
    shape = x.shape;
    readings = union-associative reading_total reading_exact x.readings y.readings z.readings i;
    marks = union-associative marks_total marks_exact x.marks y.marks z.marks i;
  };
}
