-- What joins hold, and the join of the parts of one picture.
use Rattle.std.proofs.Common.{◌≡◌, ℕ, zero, suc, Bool, true, false, List, [], ◌∷◌, map, All, refl, sym, ap, ◌∙◌, subst, arith}
use Rattle.std.specs.Prelude.{◌||◌, Contains}
use Rattle.std.specs.Cmp.{both_ways}
use Rattle.std.specs.List.{list_any}
use Rattle.std.specs.List.Sorted.{IsStrictlySortedBy}
use Rattle.std.specs.Ordering.{eq_by_cmp, is_eq}
use Rattle.std.proofs.lemmas.Cmp.{tied_itself}
use Rattle.std.proofs.lemmas.List.Elements.{All-contains}
use Rattle.jls_values.specs.Join.{join_all}
use Rattle.jls_values.specs.OrderedSet as set
use Rattle.jls_values.specs.OrderedSet.{contains}
use Rattle.jls_values.specs.OrderedSetLaws.{contains-union, same_set, or_false, items-from_list, union-associative}
use Rattle.jls_values.proofs.Tests.{either}
use Rattle.jls_partial.specs.Partial.{PartialPicture, readings_at, union, IsFitting}
use Rattle.jls_partial.specs.Parts.{IsPartOf, EachLineIsHeld, JoinsHoldExactly, JoinsHoldAllMarks, PartsGiveThePicture, all_marks}
use Rattle.jls_partial.specs.Marks.{mark_cmp}
use Rattle.jls_partial.specs.Reading.{Reading, reading_of, reading_cmp}
use Rattle.jls_partial.specs.ReadingOrder.{reading_total, reading_exact, same_reading, marks_total, marks_exact}
use Rattle.jls_partial.specs.Status.{status_of, IsSettled}
use Rattle.jls_partial.specs.declared.status.Status.TheVariants.{Settled}
use Rattle.jls_partial.proofs.Unions.{in_its_line, held_in_line, place_exists}

-- ---- what a join holds

has : PartialPicture → Reading → Type 0
has p r = contains p.readings r ≡ true

union_has : (p q : PartialPicture) (r : Reading) → contains (union p q).readings r ≡ (contains p.readings r || contains q.readings r)
union_has p q r = contains-union reading_total p.readings q.readings r

left_kept : (p q : PartialPicture) (r : Reading) → contains p.readings r ≡ true → contains (union p q).readings r ≡ true
left_kept p q r h = union_has p q r ∙ rw h refl

or_true : (b : Bool) → (b || true) ≡ true
or_true true = refl
or_true false = refl

right_kept : (p q : PartialPicture) (r : Reading) → contains q.readings r ≡ true → contains (union p q).readings r ≡ true
right_kept p q r h = union_has p q r ∙ rw h (or_true (contains p.readings r))

-- the first of a join is held
first_held : (first : PartialPicture) (others : List PartialPicture) (r : Reading) → contains first.readings r ≡ true
    → contains (join_all union first others).readings r ≡ true
first_held first [] r h = h
first_held first (q ∷ qs) r h = first_held (union first q) qs r (left_kept first q r h)

-- each member of a join is held
member_held : (first : PartialPicture) (others : List PartialPicture) (p : PartialPicture) (r : Reading) → Contains (first ∷ others) p
    → contains p.readings r ≡ true → contains (join_all union first others).readings r ≡ true
member_held first others p r (zero, lt, e) h =
    first_held first others r (subst (λ (q : PartialPicture). contains q.readings r ≡ true) (sym e) h)
member_held first [] p r (suc k, lt, e) h = absurd (omega (arith, lt))
member_held first (q ∷ qs) p r (suc zero, lt, e) h =
    first_held (union first q) qs r (right_kept first q r (subst (λ (s : PartialPicture). contains s.readings r ≡ true) (sym e) h))
member_held first (q ∷ qs) p r (suc (suc k), lt, e) h = member_held (union first q) qs p r (suc k, omega (arith, lt), e) h

-- what is held, a member holds
held_of_member : (first : PartialPicture) (others : List PartialPicture) (r : Reading)
    → contains (join_all union first others).readings r ≡ true
    → (p : PartialPicture) × Contains (first ∷ others) p × (contains p.readings r ≡ true)
held_of_member first [] r h = (first, (0, omega arith, refl), h)
held_of_member first (q ∷ qs) r h = of_two (held_of_member (union first q) qs r h)
  where
    Held : Type 0
    Held = (p : PartialPicture) × Contains (first ∷ q ∷ qs) p × (contains p.readings r ≡ true)

    of_two : (p : PartialPicture) × Contains (union first q ∷ qs) p × (contains p.readings r ≡ true) → Held
    of_two (p, (zero, lt, e), held) =
        either Held (contains first.readings r) (contains q.readings r)
        (λ one. (first, (0, omega arith, refl), one))
        (λ other. (q, (1, omega arith, refl), other))
        (sym (union_has first q r) ∙ subst (λ (s : PartialPicture). contains s.readings r ≡ true) (sym e) held)
    of_two (p, (suc k, lt, e), held) = (p, (suc (suc k), omega (arith, lt), e), held)

pub held_by_members : JoinsHoldExactly
held_by_members first others component line samples =
    let r = reading_of component line samples in
    (λ h. held_of_member first others r h, λ m. member_held first others m.0 r m.1 m.2)

-- ---- the marks of a join

no_marks : set.items (set.empty {R = mark_cmp reading_cmp}) ≡ []
unfolding IsStrictlySortedBy
no_marks = items-from_list marks_total [] tt

pub marks_of_join : JoinsHoldAllMarks
marks_of_join first [] = sym (ap (set.insert_all first.marks) no_marks)
marks_of_join first (q ∷ qs) = marks_of_join (union first q) qs
    ∙ union-associative marks_total marks_exact first.marks q.marks (all_marks qs)

-- ---- the parts of one picture

-- a join has the shape of the first
pub shape_of_join : (first : PartialPicture) (others : List PartialPicture) → (join_all union first others).shape ≡ first.shape
shape_of_join first [] = refl
shape_of_join first (q ∷ qs) = shape_of_join (union first q) qs

-- of a line with one reading, each reading is that one
only_reading : (readings : List (List ℕ)) (c l : ℕ) (r s : Reading) → status_of readings ≡ Settled
    → list_any (eq_by_cmp reading_cmp r) (map (reading_of c l) readings) ≡ true
    → list_any (eq_by_cmp reading_cmp s) (map (reading_of c l) readings) ≡ true → r ≡ s
only_reading [] c l r s settled h g = absurd cc
only_reading (x ∷ []) c l r s settled h g =
    same_reading r (reading_of c l x) (sym (or_false (eq_by_cmp reading_cmp r (reading_of c l x))) ∙ h)
    ∙ sym (same_reading s (reading_of c l x) (sym (or_false (eq_by_cmp reading_cmp s (reading_of c l x))) ∙ g))
only_reading (x ∷ y ∷ others) c l r s settled h g = absurd cc

-- a line that has readings has one that is held
a_reading : (p : PartialPicture) (c l : ℕ) (readings : List (List ℕ)) → readings_at p c l ≡ readings → (readings ≡ [] → ⊥)
    → (x : List ℕ) × (contains p.readings (reading_of c l x) ≡ true)
a_reading p c l [] e some = absurd (some refl)
a_reading p c l (x ∷ xs) e some = (
  x,
  held_in_line p (reading_of c l x) c l
      (ap (λ (ys : List (List ℕ)). list_any (eq_by_cmp reading_cmp (reading_of c l x)) (map (reading_of c l) ys)) e
      ∙ rw (ap is_eq (tied_itself reading_total (reading_of c l x))) refl),
)

module _ (picture first : PartialPicture) (others : List PartialPicture) (are : All (IsPartOf picture) (first ∷ others)) where
  part_of : (p : PartialPicture) → Contains (first ∷ others) p → IsPartOf picture p
  part_of p c = All-contains (IsPartOf picture) (first ∷ others) p are c

  -- the join holds nothing else
  nothing_else : (r : Reading) → contains (join_all union first others).readings r ≡ true → contains picture.readings r ≡ true
  nothing_else r h = let m = held_of_member first others r h in (part_of m.0 m.1).readings r.component r.line r.samples m.2

  -- the join holds all of the picture
  all_of_it : IsFitting picture → IsSettled picture → EachLineIsHeld picture.shape (first ∷ others) → (r : Reading)
      → contains picture.readings r ≡ true → contains (join_all union first others).readings r ≡ true
  all_of_it fitting settled each r h =
      let inside = place_exists picture.shape r.component r.line r.samples (fitting r.component r.line r.samples h) in
      let s = each r.component inside.0 r.line inside.1 in
      let x = a_reading s.0 r.component r.line (readings_at s.0 r.component r.line) refl s.2 in
      let same = reading_of r.component r.line x.0 in
      let held = (part_of s.0 s.1).readings r.component r.line x.0 x.1 in
      let one : r ≡ same =
      only_reading (readings_at picture r.component r.line) r.component r.line r same (settled r.component inside.0 r.line inside.1)
      (in_its_line picture r h) (in_its_line picture same held) in
      subst (λ (q : Reading). contains (join_all union first others).readings q ≡ true) (sym one)
      (member_held first others s.0 same s.1 x.1)

-- the law: parts of a picture, of which each line is held, join to that picture
pub parts_join : PartsGiveThePicture
parts_join picture fitting settled first others are each =
    let shape = shape_of_join first others ∙ (part_of picture first others are first (0, omega arith, refl)).shape in
    let readings = same_set reading_total reading_exact (join_all union first others).readings picture.readings
    (λ r. both_ways _ _ (nothing_else picture first others are r) (all_of_it picture first others are fitting settled each r)) in
    λ i. record { shape = shape i; readings = readings i; marks = marks_of_join first others i }
