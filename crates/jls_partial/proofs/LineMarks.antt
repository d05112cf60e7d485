-- The marks of lines: what they hold, and what one line more, or more sources of a line, leave.
use Rattle.std.proofs.Common.{◌≡◌, ℕ, zero, suc, ◌<◌, ◌≤◌, Bool, true, false, ◌&&◌, ◌||◌, List, [], ◌∷◌, length, get_or, set, refl, ap}
use Rattle.std.proofs.Common.{sym, ◌∙◌, arith}
use Rattle.std.specs.declared.cmp.Ordering.{Ordering}
use Rattle.std.specs.Cmp.Lexicographic.{slice_cmp}
use Rattle.std.specs.List.{list_any, insert}
use Rattle.std.specs.Ordering.{nat_cmp, eq_by_cmp}
use Rattle.std.proofs.lemmas.Cmp.{nat_cmp_total}
use Rattle.jls_values.specs.OrderedSet as sets
use Rattle.jls_values.specs.OrderedSetLaws.{same_set, contains-insert_all, contains-from_list, contains-items, or_false, or_comm}
use Rattle.jls_values.proofs.Inserts.{any-insert}
use Rattle.jls_values.proofs.Tests.{any_of_three}
use Rattle.jls_partial.specs.LineSetLaws.{line_marks_total, line_marks_exact}
use Rattle.jls_partial.specs.Marks.{mark_cmp, marks_of}
use Rattle.jls_partial.specs.Packed.{Kept}
use Rattle.jls_partial.proofs.MarkSets.{has_mark, any_marks}

abbrev S : List ℕ → List ℕ → Ordering
S = slice_cmp nat_cmp

-- what the set of the marks of a list contains
pub marks_hold : (ks : List Kept) (x : List ℕ) (s : ℕ) → sets.contains (sets.from_list {R = mark_cmp S} (marks_of ks)) (x, s)
    ≡ has_mark S x s ks
marks_hold ks x s = contains-from_list line_marks_total (marks_of ks) (x, s) ∙ any_marks S x s ks

-- a line put in with its sources
pub marks-insert : (ks : List Kept) (i : ℕ) (x ss : List ℕ) → i ≤ length ks
    → sets.from_list {R = mark_cmp S} (marks_of (insert ks i (x, ss)))
    ≡ sets.insert_all (sets.from_list {R = mark_cmp S} (marks_of ks)) (marks_of ((x, ss) ∷ []))
marks-insert ks i x ss le = same_set line_marks_total line_marks_exact _ _ (λ m.
    marks_hold (insert ks i (x, ss)) m.0 m.1
    ∙ any-insert (λ k. eq_by_cmp S m.0 k.0 && list_any (eq_by_cmp nat_cmp m.1) k.1) ks i (x, ss) le
    ∙ or_comm (eq_by_cmp S m.0 x && list_any (eq_by_cmp nat_cmp m.1) ss) (has_mark S m.0 m.1 ks)
    ∙ (λ j. sym (marks_hold ks m.0 m.1) j || sym (or_false (eq_by_cmp S m.0 x && list_any (eq_by_cmp nat_cmp m.1) ss)) j)
    ∙ ap (λ b. sets.contains (sets.from_list {R = mark_cmp S} (marks_of ks)) m || b) (sym (any_marks S m.0 m.1 ((x, ss) ∷ [])))
    ∙ sym (contains-insert_all line_marks_total (sets.from_list (marks_of ks)) (marks_of ((x, ss) ∷ [])) m))

-- a line whose sources became more
has-set : (ks : List Kept) (i : ℕ) (x old new ss : List ℕ) (d : Kept) (y : List ℕ) (s : ℕ) → i < length ks → get_or ks i d ≡ (x, old)
    → list_any (eq_by_cmp nat_cmp s) new ≡ (list_any (eq_by_cmp nat_cmp s) old || list_any (eq_by_cmp nat_cmp s) ss)
    → has_mark S y s (set ks i (x, new)) ≡ (has_mark S y s ks || (eq_by_cmp S y x && list_any (eq_by_cmp nat_cmp s) ss))
has-set [] i x old new ss d y s lt is more = absurd (omega arith)
has-set (k ∷ ks) zero x old new ss d y s lt is more =
    ap (λ b. (eq_by_cmp S y x && b) || has_mark S y s ks) more
    ∙ spread (eq_by_cmp S y x) (list_any (eq_by_cmp nat_cmp s) old) (list_any (eq_by_cmp nat_cmp s) ss) (has_mark S y s ks)
    ∙ ap (λ (j : Kept). ((eq_by_cmp S y j.0 && list_any (eq_by_cmp nat_cmp s) j.1) || has_mark S y s ks)
    || (eq_by_cmp S y x && list_any (eq_by_cmp nat_cmp s) ss)) (sym is)
  where
    spread : (a b c d : Bool) → ((a && (b || c)) || d) ≡ (((a && b) || d) || (a && c))
    spread true true true d = refl
    spread true true false d = refl
    spread true false true true = refl
    spread true false true false = refl
    spread true false false true = refl
    spread true false false false = refl
    spread false b c true = refl
    spread false b c false = refl
has-set (k ∷ ks) (suc i) x old new ss d y s lt is more =
    ap (λ b. (eq_by_cmp S y k.0 && list_any (eq_by_cmp nat_cmp s) k.1) || b) (has-set ks i x old new ss d y s (omega arith) is more)
    ∙ any_of_three (eq_by_cmp S y k.0 && list_any (eq_by_cmp nat_cmp s) k.1) (has_mark S y s ks)
    (eq_by_cmp S y x && list_any (eq_by_cmp nat_cmp s) ss)

-- where a line gets more sources, the marks of the lines are those from before and these
pub marks-set : (ks : List Kept) (i : ℕ) (x : List ℕ) (old : sets.OrderedSet nat_cmp) (ss : List ℕ) (d : Kept) → i < length ks
    → get_or ks i d ≡ (x, sets.items old)
    → sets.from_list {R = mark_cmp S} (marks_of (set ks i (x, sets.items (sets.insert_all old ss))))
    ≡ sets.insert_all (sets.from_list {R = mark_cmp S} (marks_of ks)) (marks_of ((x, ss) ∷ []))
marks-set ks i x old ss d lt is = same_set line_marks_total line_marks_exact _ _ (λ m.
    marks_hold (set ks i (x, sets.items (sets.insert_all old ss))) m.0 m.1
    ∙ has-set ks i x (sets.items old) (sets.items (sets.insert_all old ss)) ss d m.0 m.1 lt is
    (sym (contains-items (sets.insert_all old ss) m.1) ∙ contains-insert_all nat_cmp_total old ss m.1
    ∙ ap (λ b. b || list_any (eq_by_cmp nat_cmp m.1) ss) (contains-items old m.1))
    ∙ (λ j. sym (marks_hold ks m.0 m.1) j || sym (or_false (eq_by_cmp S m.0 x && list_any (eq_by_cmp nat_cmp m.1) ss)) j)
    ∙ ap (λ b. sets.contains (sets.from_list {R = mark_cmp S} (marks_of ks)) m || b) (sym (any_marks S m.0 m.1 ((x, ss) ∷ [])))
    ∙ sym (contains-insert_all line_marks_total (sets.from_list (marks_of ks)) (marks_of ((x, ss) ∷ [])) m))
