-- The union of line sets is a join.
use Rattle.std.specs.Prelude.{◌≡◌, true, ◌==◌}
use Rattle.std.proofs.Common.{refl}
use Rattle.std.specs.Cmp.{IsTotalOrder, both_ways}
use Rattle.std.specs.Cmp.Lexicographic.{slice_cmp}
use Rattle.std.specs.Ordering.{nat_cmp}
use Rattle.std.proofs.lemmas.Bool.{eqb-true, and_parts}
use Rattle.std.proofs.lemmas.Cmp.{nat_list_cmp_total}
use Rattle.std.proofs.lemmas.Map.Lookups.{CmpEqualImpliesEq, exact_bytes}
use Rattle.jls_values.specs.Join.{JoinLaws}
use Rattle.jls_values.specs.OrderedSetLaws.{union-idempotent, union-commutative, union-associative}
use Rattle.jls_partial.specs.LineSet.{PictureLines, has_same_line_shape, union_of_lines}
use Rattle.jls_partial.specs.MarkLaws.{mark_total, mark_exact}
use Rattle.jls_partial.specs.Marks.{mark_cmp}
use Rattle.jls_partial.specs.PartialLaws.{eqb_itself}

-- the order of lines, by their samples from the first one on
pub lines_total : IsTotalOrder (slice_cmp nat_cmp)
lines_total = nat_list_cmp_total

-- lines that tie are one
pub lines_exact : CmpEqualImpliesEq (slice_cmp nat_cmp)
lines_exact = exact_bytes

-- the order of marks of lines
pub line_marks_total : IsTotalOrder (mark_cmp (slice_cmp nat_cmp))
line_marks_total = mark_total lines_total

-- marks of lines that tie are one
pub line_marks_exact : CmpEqualImpliesEq (mark_cmp (slice_cmp nat_cmp))
line_marks_exact = mark_exact lines_exact

-- a line set passes the test with itself
itself : (s : PictureLines) → has_same_line_shape s s ≡ true
itself s = rw (eqb_itself s.precision, eqb_itself s.width) refl

-- line sets that pass the test agree in both
agree : (s t : PictureLines) → has_same_line_shape s t ≡ true → (s.precision ≡ t.precision) × (s.width ≡ t.width)
agree s t e =
    let p = and_parts (s.precision == t.precision) (s.width == t.width) e in
    (eqb-true s.precision t.precision p.0, eqb-true s.width t.width p.1)

-- the test does not depend on the order
test_turned : (s t : PictureLines) → has_same_line_shape s t ≡ true → has_same_line_shape t s ≡ true
test_turned s t e =
    let p = agree s t e in
    rw (p.0, p.1, eqb_itself t.precision, eqb_itself t.width) refl

-- and it goes from one to the next
test_along : (s t u : PictureLines) → has_same_line_shape s t ≡ true → has_same_line_shape t u ≡ true → has_same_line_shape s u ≡ true
test_along s t u e f =
    let p = agree s t e in
    rw (p.0, p.1) f

-- the laws of the join
pub line_set_laws : JoinLaws has_same_line_shape union_of_lines
line_set_laws = record {
  reflexive = itself;
  symmetric = λ x y. both_ways (has_same_line_shape x y) (has_same_line_shape y x) (test_turned x y) (test_turned y x);
  transitive = test_along;
  join_same_shape = λ x y e. itself x;
  idempotent = λ x. λ i. record {
    precision = x.precision;
    width = x.width;
    lines = union-idempotent lines_total lines_exact x.lines i;
    marks = union-idempotent line_marks_total line_marks_exact x.marks i;
  };
  commutative = λ x y e. let p = agree x y e in λ i. record {
    precision = p.0 i;
    width = p.1 i;
    lines = union-commutative lines_total lines_exact x.lines y.lines i;
    marks = union-commutative line_marks_total line_marks_exact x.marks y.marks i;
  };
  associative = λ x y z e f. λ i. record {
    precision = x.precision;
    width = x.width;
    lines = union-associative lines_total lines_exact x.lines y.lines z.lines i;
    marks = union-associative line_marks_total line_marks_exact x.marks y.marks z.marks i;
  };
}
