-- Lines that are taken one after the other, up to the union of two sets of lines.
use Rattle.std.proofs.Common.{◌≡◌, ℕ, ◌+◌, ◌<◌, true, eqb, ◌&&◌, ◌||◌, List, [], ◌∷◌, ◌++◌, length}
use Rattle.std.proofs.Common.{take, map, Some, ap, sym, subst, ◌∙◌}
use Rattle.std.specs.Prelude.{IfSome, slice_get}
use Rattle.std.specs.declared.cmp.Ordering.{Ordering}
use Rattle.std.specs.Cmp.{IsTotalOrder}
use Rattle.std.proofs.lemmas.Bool.{and_parts, eqb-true}
use Rattle.std.proofs.lemmas.List.{map-append}
use Rattle.std.proofs.lemmas.Map.Lookups.{CmpEqualImpliesEq}
use Rattle.jls_values.specs.Join.{IsBelow}
use Rattle.jls_values.specs.OrderedSet as sets
use Rattle.jls_values.specs.OrderedSetLaws.{same_set, contains-insert_all}
use Rattle.jls_values.specs.OrderedSetLaws.{contains-items, contains-union, insert_all-append}
use Rattle.jls_values.proofs.Tests.{implied}
use Rattle.jls_partial.specs.LineSet.{PictureLines, with_lines, line_sources, union_of_lines, has_same_line_shape, AreLineMarksHeld}
use Rattle.jls_partial.specs.LineSet.{kept_lines as kept_lines_of}
use Rattle.jls_partial.specs.LineSetLaws.{lines_total, lines_exact, line_marks_total, line_marks_exact}
use Rattle.jls_partial.specs.Marks.{marks_of}
use Rattle.jls_partial.specs.Packed.{Kept}
use Rattle.jls_partial.proofs.Entries.{S}
use Rattle.jls_partial.proofs.Growth.{kept_more}
use Rattle.jls_partial.proofs.MarkSets.{any_marks, has_given, prefix_above, marks_of-append, named}

-- taking some lines, and then others, is taking all of them
pub with_lines-append : (s : PictureLines) (xs ys : List Kept) → with_lines s (xs ++ ys) ≡ with_lines (with_lines s xs) ys
with_lines-append s xs ys = λ j. record {
  precision = s.precision;
  width = s.width;
  lines = (ap (sets.insert_all s.lines) (map-append (λ (k : Kept). k.0) xs ys)
      ∙ insert_all-append s.lines (map (λ (k : Kept). k.0) xs) (map (λ (k : Kept). k.0) ys)) j;
  marks = (ap (sets.insert_all s.marks) (marks_of-append xs ys) ∙ insert_all-append s.marks (marks_of xs) (marks_of ys)) j;
}

-- all lines of the other with their sources make the union
pub all_is_union : (s p : PictureLines) → AreLineMarksHeld p → with_lines s (kept_lines_of p) ≡ union_of_lines s p
all_is_union s p held = λ j. record {
  precision = s.precision;
  width = s.width;
  lines = ap (sets.insert_all s.lines) (named (line_sources p) (sets.items p.lines)) j;
  marks = same_set line_marks_total line_marks_exact (sets.insert_all s.marks (marks_of (kept_lines_of p))) (sets.union s.marks p.marks)
      (λ m.
      contains-insert_all line_marks_total s.marks (marks_of (kept_lines_of p)) m
      ∙ ap (λ b. sets.contains s.marks m || b)
      (any_marks S m.0 m.1 (kept_lines_of p) ∙ has_given S lines_total lines_exact p.marks m.0 m.1 (sets.items p.lines)
      ∙ ap (λ b. b && sets.contains p.marks m) (sym (contains-items p.lines m.0))
      ∙ implied (sets.contains p.lines m.0) (sets.contains p.marks m) (held m.0 m.1))
      ∙ sym (contains-union line_marks_total s.marks p.marks m)) j;
}

module _ {K : Type 0} {R : K → K → Ordering} (o : IsTotalOrder R) (exact : CmpEqualImpliesEq R) where
  prefix_below : (s : sets.OrderedSet R) (xs ys : List K)
      → sets.union (sets.insert_all s xs) (sets.insert_all s (xs ++ ys)) ≡ sets.insert_all s (xs ++ ys)
  prefix_below s xs ys = ap (sets.union (sets.insert_all s xs)) (insert_all-append s xs ys) ∙ prefix_above o exact (sets.insert_all s xs) ys
      ∙ sym (insert_all-append s xs ys)

-- some of the lines are held: all that was held is, and nothing that the union does not hold
pub prefix_between : (s p : PictureLines) → AreLineMarksHeld p → (xs ys : List Kept) → kept_lines_of p ≡ xs ++ ys
    → IsBelow union_of_lines s (with_lines s xs) × IsBelow union_of_lines (with_lines s xs) (union_of_lines s p)
prefix_between s p held xs ys is =
    let all : union_of_lines s p ≡ with_lines s (xs ++ ys) = sym (all_is_union s p held) ∙ ap (with_lines s) is in (
      λ j. record {
        precision = s.precision;
        width = s.width;
        lines = prefix_above lines_total lines_exact s.lines (map (λ (k : Kept). k.0) xs) j;
        marks = prefix_above line_marks_total line_marks_exact s.marks (marks_of xs) j;
      },
      subst (λ (z : PictureLines). IsBelow union_of_lines (with_lines s xs) z) (sym all) (λ j. record {
        precision = s.precision;
        width = s.width;
        lines = (ap (λ ls. sets.union (sets.insert_all s.lines (map (λ (k : Kept). k.0) xs)) (sets.insert_all s.lines ls))
            (map-append (λ (k : Kept). k.0) xs ys)
            ∙ prefix_below lines_total lines_exact s.lines (map (λ (k : Kept). k.0) xs) (map (λ (k : Kept). k.0) ys)
            ∙ ap (sets.insert_all s.lines) (sym (map-append (λ (k : Kept). k.0) xs ys))) j;
        marks = (ap (λ ms. sets.union (sets.insert_all s.marks (marks_of xs)) (sets.insert_all s.marks ms)) (marks_of-append xs ys)
            ∙ prefix_below line_marks_total line_marks_exact s.marks (marks_of xs) (marks_of ys)
            ∙ ap (sets.insert_all s.marks) (sym (marks_of-append xs ys))) j;
      }),
    )

-- sets of one precision and width
pub agree : (s p : PictureLines) → has_same_line_shape s p ≡ true → (s.precision ≡ p.precision) × (s.width ≡ p.width)
agree s p e = let parts = and_parts (eqb s.precision p.precision) (eqb s.width p.width) e in
    (eqb-true s.precision p.precision parts.0, eqb-true s.width p.width parts.1)

-- one more of the lines of the other was taken
pub one_more : (s into p : PictureLines) (i : ℕ) (x ss : List ℕ) → i < length (sets.items p.lines)
    → slice_get (sets.items p.lines) i ≡ Some x → IfSome (slice_get (sets.items p.lines) i) (λ samples. ss ≡ line_sources p samples)
    → into ≡ with_lines s (take i (kept_lines_of p)) → with_lines into ((x, ss) ∷ []) ≡ with_lines s (take (i + 1) (kept_lines_of p))
one_more s into p i x ss lt value own so_far =
    ap (λ (z : PictureLines). with_lines z ((x, ss) ∷ [])) so_far
    ∙ sym (with_lines-append s (take i (kept_lines_of p)) ((x, ss) ∷ [])) ∙ ap (with_lines s) (sym (kept_more p i x ss lt value own))
