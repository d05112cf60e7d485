use Rattle.std.proofs.Common.{◌≡◌, ℕ, ◌<◌, ◌+◌, ◌∙◌, Bool, true, false, not, eqb, List, length, drop, refl, ap, sym, subst, arith}
use Rattle.std.proofs.lemmas.List.{drop_all}
use Rattle.std.proofs.lemmas.Bool.{false≢true}
use Rattle.std.proofs.lemmas.Bool.Decides.{Decides-eqb}
use Rattle.std.proofs.lemmas.Slice.Eq.{slice_eq-Decides}
use Rattle.std.specs.Cmp.Lexicographic.{pointwise}
use Rattle.jls_held.specs.Edits.{held_by_either}
use Rattle.jls_held.specs.Mending.{file_of}
use Rattle.jls_held.specs.Judging.{bytes_of, coding_of, edited_copy_of}
use Rattle.jls_held.proofs.MendedCopies.{left_more}
use Rattle.jls_held.proofs.EditedCopies.{IsMendedSoFar, made_as_long, first_made, one_more, all_made, unfit, other_bytes}
use Rattle.jls_held.proofs.judging.mended_of.Goals as goal

-- what a test of bytes says
not-false : (b : Bool) → not b ≡ false → b ≡ true
not-false true e = refl
not-false false e = sym e

not-true : (b : Bool) → not b ≡ true → b ≡ true → ⊥
not-true true e f = false≢true e
not-true false e f = false≢true f

same_bytes : (xs ys : List ℕ) → not (pointwise eqb xs ys) ≡ false → xs ≡ ys
same_bytes xs ys e = (slice_eq-Decides Decides-eqb xs ys (pointwise eqb xs ys) refl).0 (not-false (pointwise eqb xs ys) e)

bytes_differ : (xs ys : List ℕ) → not (pointwise eqb xs ys) ≡ true → xs ≡ ys → ⊥
bytes_differ xs ys e same =
    not-true (pointwise eqb xs ys) e ((slice_eq-Decides Decides-eqb xs ys (pointwise eqb xs ys) refl).1 same)

-- the first edited copy makes the file that the others are to make too
pub loop-edited-init : goal.loop-edited-init
loop-edited-init c =
    let made = rw c.in-Some-2.is at c.in_ok-file.ensures in
    first_made (bytes_of c.args.copies.now) (coding_of c.args.coding.now) (coding_of c.in-Some.others.now) (edited_copy_of c.in-Some.first.now)
    (file_of c.in-Some-2.file) (ap coding_of c.in-Some.ensures.cases.0) made.0 made.1

-- another edited copy makes no file, so that the edited copies make none together
pub returns-in_default-3 : goal.returns-in_default-3
returns-in_default-3 c = λ f m.
    let l = c.loop-edited in let copies = bytes_of c.args.copies.now in let coding = coding_of c.args.coding.now in
    let more = left_more edited_copy_of c.in-Some.others.now l.edited-index c.edited-item.result c.loop-edited-test.true c.edited-item.is in
    let unfit_is = rw c.in_default-3.is at c.in_ok-other.ensures in
    unfit copies coding _ (edited_copy_of c.edited-item.result) (file_of l.file) f
    (subst (λ es. IsMendedSoFar copies coding es (file_of l.file)) more l.invariant) unfit_is m

-- a copy makes other bytes
pub returns-then-ne : goal.returns-then-ne
returns-then-ne c = λ f m.
    let l = c.loop-edited in let copies = bytes_of c.args.copies.now in let coding = coding_of c.args.coding.now in
    let more = left_more edited_copy_of c.in-Some.others.now l.edited-index c.edited-item.result c.loop-edited-test.true c.edited-item.is in
    let made = rw c.in-Some-3.is at c.in_ok-other.ensures in
    other_bytes copies coding _ (edited_copy_of c.edited-item.result) (file_of l.file) (file_of c.in-Some-3.other) f
    (subst (λ es. IsMendedSoFar copies coding es (file_of l.file)) more l.invariant) made.1
    (bytes_differ c.in-Some-3.other.bytes.items l.file.bytes.items (sym c.ne.ensures ∙ c.if-ne.true)) m

-- both files have as many marks
pub hold_of_either-requires : goal.hold_of_either-requires
hold_of_either-requires c =
    let l = c.loop-edited in let other = c.in-Some-3.other in
    let made = rw c.in-Some-3.is at c.in_ok-other.ensures in
    let same = same_bytes other.bytes.items l.file.bytes.items (sym c.ne.ensures ∙ c.if-ne.false) in
    let long = made_as_long (bytes_of c.args.copies.now) (edited_copy_of c.edited-item.result) (file_of other) made.1 in
    l.invariant.as_long ∙ (ap length (sym same) ∙ (sym long ∙ ap length (sym c.deref.ensures.value)))

-- one copy more makes the same bytes
pub loop-edited-preserved : goal.loop-edited-preserved
loop-edited-preserved c =
    let l = c.loop-edited in let copies = bytes_of c.args.copies.now in let coding = coding_of c.args.coding.now in
    let other = c.in-Some-3.other in
    let more = left_more edited_copy_of c.in-Some.others.now l.edited-index c.edited-item.result c.loop-edited-test.true c.edited-item.is in
    let made = rw c.in-Some-3.is at c.in_ok-other.ensures in
    let same = same_bytes other.bytes.items l.file.bytes.items (sym c.ne.ensures ∙ c.if-ne.false) in
    one_more copies coding (coding_of (drop (l.edited-index + 1) c.in-Some.others.now)) (edited_copy_of c.edited-item.result) (file_of l.file)
    (file_of other) c.hold_of_either.new.held.items (subst (λ es. IsMendedSoFar copies coding es (file_of l.file)) more l.invariant) made.0 made.1
    same (c.hold_of_either.ensures ∙ ap (held_by_either l.file.held.items) c.deref.ensures.value)

-- all copies make the same bytes
pub returns : goal.returns
returns c =
    let l = c.loop-edited in let copies = bytes_of c.args.copies.now in let coding = coding_of c.args.coding.now in
    let none_left = ap coding_of (drop_all l.edited-index c.in-Some.others.now c.loop-edited-test.false) in
    all_made copies coding (file_of l.file) (subst (λ es. IsMendedSoFar copies coding es (file_of l.file)) none_left l.invariant)
    (subst (λ es. 0 < length es) (sym (ap coding_of c.in-Some.ensures.cases.0)) (omega arith))
