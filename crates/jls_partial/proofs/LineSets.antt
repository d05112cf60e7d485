-- Sets of lines: what is kept, what one line more or one more source leaves, and the sources of each line.
use Rattle.std.proofs.Common.{◌≡◌, ℕ, zero, suc, ◌+◌, ◌<◌, ◌≤◌, Bool, true, false, not, cond, eqb, ◌&&◌, ◌||◌, List, [], ◌∷◌, ◌++◌, length}
use Rattle.std.proofs.Common.{get_or, set, take, drop, map, Option, Some, None, refl, ap, sym, subst, ◌∙◌, arith}
use Rattle.std.specs.Prelude.{IsTrue, ◌↔◌}
use Rattle.std.specs.List.{list_any, insert, AllByRecursion}
use Rattle.std.specs.List.Sorted.{IsStrictlySortedBy}
use Rattle.std.specs.Ordering.{nat_cmp, eq_by_cmp}
use Rattle.std.proofs.Math.Seq.{map-set_same}
use Rattle.std.proofs.lemmas.Bool.{eqb-true, ne_eqb}
use Rattle.std.proofs.lemmas.Cmp.{nat_cmp_total}
use Rattle.std.proofs.lemmas.List.{map-set, length-map, length-set, get_or-map}
use Rattle.std.proofs.lemmas.List.Elements.{All-from_recursion}
use Rattle.std.proofs.lemmas.Map.Lookups.{exact_unsigned}
use Rattle.jls_values.specs.OrderedSet as sets
use Rattle.jls_values.specs.OrderedSetLaws.{items-from_list, same_set, contains-insert, contains-insert_all, contains-from_list}
use Rattle.jls_values.specs.OrderedSetLaws.{contains-items, contains-empty}
use Rattle.jls_values.proofs.Inserts.{all-insert}
use Rattle.jls_partial.specs.declared.slots.Slot.{Slot}
use Rattle.jls_partial.specs.declared.insert_fault.InsertFault.{InsertFault}
use Rattle.jls_partial.specs.InsertFaults.{samples_fault}
use Rattle.jls_partial.specs.LineSet.{PictureLines, with_lines, line_sources}
use Rattle.jls_partial.specs.LineSetLaws.{lines_total, lines_exact, line_marks_total, line_marks_exact}
use Rattle.jls_partial.specs.Marks.{mark_cmp, marks_of}
use Rattle.jls_partial.specs.MarkLaws.{contains-sources_of}
use Rattle.jls_partial.specs.Packed.{Kept, kept_of, lines_of, IsGap}
use Rattle.jls_partial.specs.PackedLines.{seen_lines, IsLineSet}
use Rattle.jls_partial.specs.ReadingOrder.{same_samples}
use Rattle.jls_partial.proofs.PackedLines.{kept_more, lines_more, packed_more, from_list-insert, gap-new, there-held}
use Rattle.jls_partial.proofs.PackedLines.{kept_lines, length-kept, inside_at, line_at}
use Rattle.jls_partial.proofs.LineMarks.{marks_hold, marks-insert, marks-set}
use Rattle.jls_partial.proofs.Entries.{S, any_all}
use Rattle.jls_partial.proofs.MarkSets.{has_mark, any_marks, HasOwn, each_has_own}

-- nothing is kept of an empty set
pub none_kept : (precision width : ℕ) (packed : List ℕ) → precision ≤ 16 → 1 ≤ width → IsLineSet precision width packed []
unfolding IsStrictlySortedBy
none_kept precision width packed h wide =
    record {
      precision_at_most = h;
      width_at_least = wide;
      packed_lines = record { inside = tt; few = omega arith; sorted = tt };
      fitting =
          tt;
    }

module _ (precision width : ℕ) (packed : List ℕ) (slots : List Slot) (s : PictureLines) (kept : IsLineSet precision width packed slots)
    (is : seen_lines precision width packed slots ≡ s) where
  -- the lines are what is kept, in order
  pub lines_kept : sets.items s.lines ≡ lines_of width packed slots
  lines_kept = ap (λ (z : PictureLines). sets.items z.lines) (sym is)
      ∙ items-from_list lines_total (lines_of width packed slots) kept.packed_lines.sorted

  pub length_kept : length (sets.items s.lines) ≡ length slots
  length_kept = ap length lines_kept ∙ length-map slots (λ (t : Slot). take width (drop t.start packed))

  -- a line that was found is held, and one that has a gap is not
  pub found_held : (i : ℕ) (x : List ℕ) → i < length slots → get_or (lines_of width packed slots) i x ≡ x → sets.contains s.lines x ≡ true
  found_held i x lt same =
      let many : length (lines_of width packed slots) ≡ length slots = length-map slots (λ (t : Slot). take width (drop t.start packed)) in
      ap (λ (z : PictureLines). sets.contains z.lines x) (sym is)
      ∙ there-held lines_total lines_exact (lines_of width packed slots) i x (omega (arith, many, lt)) same

  pub gap_new : (i : ℕ) (x : List ℕ) → IsGap S (lines_of width packed slots) i x → sets.contains s.lines x ≡ false
  gap_new i x gap = ap (λ (z : PictureLines). sets.contains z.lines x) (sym is)
      ∙ gap-new lines_total lines_exact (lines_of width packed slots) i x gap

  -- what is held fits
  pub held_fits : (x : List ℕ) → sets.contains s.lines x ≡ true → samples_fault precision width x ≡ None
  held_fits x h = any_all (λ samples. samples_fault precision width samples ≡ None) x (lines_of width packed slots) kept.fitting
      (sym (contains-from_list lines_total (lines_of width packed slots) x) ∙ ap (λ (z : PictureLines). sets.contains z.lines x) is ∙ h)

-- a line that is held is held once
pub insert-held : (s : sets.OrderedSet S) (x : List ℕ) → sets.contains s x ≡ true → sets.insert s x ≡ s
insert-held s x h = same_set lines_total lines_exact _ _ (λ q. contains-insert lines_total s x q ∙ step q)
  where
    step : (q : List ℕ) → (eq_by_cmp S q x || sets.contains s q) ≡ sets.contains s q
    step q =
        elim (eq_by_cmp S q x) as (λ b. eq_by_cmp S q x ≡ b → (b || sets.contains s q) ≡ sets.contains s q) [
          | true ↦ λ e. sym h ∙ ap (sets.contains s) (sym (same_samples q x e))
          | false ↦ λ e. refl
        ] refl

-- ---- one line more

-- the set of no numbers has no item
pub no_items : sets.items (sets.empty {R = nat_cmp}) ≡ []
unfolding IsStrictlySortedBy
no_items = items-from_list nat_cmp_total [] tt

-- a set without items is the set of no numbers
pub none_where_no_items : (s : sets.OrderedSet nat_cmp) (xs : List ℕ) (b : Bool) → xs ≡ sets.items s → b ≡ eqb (length xs) 0
    → IsTrue b ↔ (s ≡ sets.empty)
none_where_no_items s [] b e test = (
  λ _. same_set nat_cmp_total exact_unsigned _ _
      (λ q. contains-items s q ∙ ap (list_any (eq_by_cmp nat_cmp q)) (sym e) ∙ sym (contains-empty nat_cmp q)),
  λ _. test,
)
none_where_no_items s (x ∷ xs) b e test = (
  λ t. let long : eqb (length (x ∷ xs)) 0 ≡ false = ne_eqb (length (x ∷ xs)) 0 (λ z. omega arith) in let bad : true ≡ false = sym t ∙ test
      ∙ long in absurd cc,
  λ z. let same : x ∷ xs ≡ [] = e ∙ ap sets.items z ∙ no_items in absurd cc,
)

module _ (precision width : ℕ) (packed samples : List ℕ) (slots : List Slot) (i : ℕ) (kept : IsLineSet precision width packed slots)
    (gap : IsGap S (lines_of width packed slots) i samples) (fits : samples_fault precision width samples ≡ None)
    (len : length samples ≡ width) (sources : sets.OrderedSet nat_cmp) where
  in_slots : i ≤ length slots
  in_slots = let many : length (lines_of width packed slots) ≡ length slots =
      length-map slots (λ (t : Slot). take width (drop t.start packed)) in let g = gap.within in omega (arith, many, g)

  -- the place lies among the lines that are kept
  in_kept : i ≤ length (kept_of width packed slots)
  in_kept = let many : length (kept_of width packed slots) ≡ length slots = length-kept width packed slots in let g = in_slots in
      omega (arith, many, g)

  abbrev added : List Slot
  added = insert slots i (record { start = length packed; sources = sources })

  -- a line set with a line put in is a line set
  pub put_kept : IsLineSet precision width (packed ++ samples) added
  put_kept =
      let P : List ℕ → Type 0 = λ y. samples_fault precision width y ≡ None in
      record {
        precision_at_most = kept.precision_at_most;
        width_at_least = kept.width_at_least;
        packed_lines = packed_more width packed samples slots i sources len in_slots kept.packed_lines.inside kept.width_at_least
            kept.packed_lines gap;
        fitting = subst (AllByRecursion P) (sym (lines_more width packed samples slots i sources len in_slots kept.packed_lines.inside))
            (all-insert P (lines_of width packed slots) i samples gap.within kept.fitting fits);
      }

  -- a line set with a line put in is seen with that line and its sources
  pub put_seen : seen_lines precision width (packed ++ samples) added
      ≡ with_lines (seen_lines precision width packed slots) ((samples, sets.items sources) ∷ [])
  put_seen = λ j. record {
    precision = precision;
    width = width;
    lines = (ap sets.from_list (lines_more width packed samples slots i sources len in_slots kept.packed_lines.inside)
        ∙ from_list-insert lines_total lines_exact (lines_of width packed slots) i samples gap.within) j;
    marks = (ap (λ ks. sets.from_list {R = mark_cmp S} (marks_of ks))
        (kept_more width packed samples slots i sources len in_slots kept.packed_lines.inside)
        ∙ marks-insert (kept_of width packed slots) i samples (sets.items sources) in_kept) j;
  }

-- the samples of a line that fits
pub fitting_length : (precision width : ℕ) (samples : List ℕ) → samples_fault precision width samples ≡ None → length samples ≡ width
fitting_length precision width samples e = eqb-true (length samples) width (wide (eqb (length samples) width) _ _ e)
  where
    wide : (b : Bool) (f : InsertFault) (o : Option InsertFault) → cond (not b) (Some f) o ≡ None → b ≡ true
    wide true f o e = refl
    wide false f o e = absurd cc

-- ---- a line that is held gets more sources

module _ (precision width : ℕ) (packed samples : List ℕ) (slots : List Slot) (i : ℕ) (s : Slot)
    (kept : IsLineSet precision width packed slots) (lt : i < length slots) (is : s ≡ get_or slots i s)
    (found : get_or (lines_of width packed slots) i samples ≡ samples) (more : sets.OrderedSet nat_cmp) where
  abbrev changed : Slot
  changed = record { start = s.start; sources = more }

  lines_same : lines_of width packed (set slots i changed) ≡ lines_of width packed slots
  lines_same = map-set_same (λ (t : Slot). take width (drop t.start packed)) slots i changed s
      (ap (λ (t : Slot). take width (drop t.start packed)) is)

  its_samples : take width (drop s.start packed) ≡ samples
  its_samples = sym (line_at width packed slots i s samples lt is) ∙ found

  all_set : (P : Slot → Type 0) (ts : List Slot) (k : ℕ) (t : Slot) → AllByRecursion P ts → P t → AllByRecursion P (set ts k t)
  all_set P [] k t h p = tt
  all_set P (u ∷ ts) zero t h p = (p, h.1)
  all_set P (u ∷ ts) (suc k) t h p = (h.0, all_set P ts k t h.1 p)

  -- slots of a line set stay that where one gets other sources
  pub set_kept : IsLineSet precision width packed (set slots i changed)
  set_kept =
      let P : List ℕ → Type 0 = λ y. samples_fault precision width y ≡ None in
      let few = kept.packed_lines.few in
      record {
        precision_at_most = kept.precision_at_most;
        width_at_least = kept.width_at_least;
        packed_lines = record {
          inside = all_set (λ t. t.start + width ≤ length packed) slots i changed kept.packed_lines.inside
              (inside_at width packed slots i s kept.packed_lines.inside lt is);
          few = subst (λ (n : ℕ). n ≤ length packed) (sym (length-set slots i changed)) few;
          sorted = subst (IsStrictlySortedBy S) (sym lines_same) kept.packed_lines.sorted;
        };
        fitting = subst (AllByRecursion P) (sym lines_same) kept.fitting;
      }

  -- where a slot gets more sources, its line is seen with these sources too
  pub set_seen : (ss : List ℕ) → more ≡ sets.insert_all s.sources ss
      → seen_lines precision width packed (set slots i changed) ≡ with_lines (seen_lines precision width packed slots) ((samples, ss) ∷ [])
  set_seen ss grown =
      let many : length (lines_of width packed slots) ≡ length slots = length-map slots (λ (t : Slot). take width (drop t.start packed)) in
      let many_kept : length (kept_of width packed slots) ≡ length slots = length-kept width packed slots in
      let there = there-held lines_total lines_exact (lines_of width packed slots) i samples (omega (arith, many, lt)) found in
      let f = λ (t : Slot). let k : Kept = (take width (drop t.start packed), sets.items t.sources) in k in
      let old : get_or (kept_of width packed slots) i (f s) ≡ (samples, sets.items s.sources) = get_or-map f slots i s (f s) lt
      ∙ ap f (sym is) ∙ ap (λ (x : List ℕ). (x, sets.items s.sources)) its_samples in
      λ j. record {
        precision = precision;
        width = width;
        lines = (ap sets.from_list lines_same ∙ sym (insert-held (sets.from_list (lines_of width packed slots)) samples there)) j;
        marks = (
            ap (λ ks. sets.from_list {R = mark_cmp S} (marks_of ks))
            (map-set f slots i changed ∙ (λ k. set (kept_of width packed slots) i (its_samples k, sets.items (grown k))))
            ∙ marks-set (kept_of width packed slots) i samples s.sources ss (f s) (omega (arith, many_kept, lt)) old
            ) j;
      }

-- ---- the sources of a line

-- of lines that rise, each has its own sources
own_sources : (ks : List Kept) (i : ℕ) (d : Kept) (t : ℕ) → IsStrictlySortedBy S (map (λ k. k.0) ks) → i < length ks
    → has_mark S (get_or ks i d).0 t ks ≡ list_any (eq_by_cmp nat_cmp t) (get_or ks i d).1
own_sources ks i d t h lt = All-from_recursion (HasOwn S lines_total ks) ks (each_has_own S lines_total ks h) i d lt t

-- the sources in a slot are those of its line in the line set that is seen
pub sources_lent : (precision width : ℕ) (packed : List ℕ) (slots : List Slot) (p : PictureLines) (i : ℕ) (s : Slot)
    → IsLineSet precision width packed slots → seen_lines precision width packed slots ≡ p → i < length slots → s ≡ get_or slots i s
    → line_sources p (take width (drop s.start packed)) ≡ sets.items s.sources
sources_lent precision width packed slots p i s kept seen lt is =
    let f = λ (t : Slot). let k : Kept = (take width (drop t.start packed), sets.items t.sources) in k in
    let ks = kept_of width packed slots in
    let many : length ks ≡ length slots = length-kept width packed slots in
    let there : get_or ks i (f s) ≡ f s = get_or-map f slots i s (f s) lt ∙ ap f (sym is) in
    let rises : IsStrictlySortedBy S (map (λ k. k.0) ks) =
    subst (IsStrictlySortedBy S) (sym (kept_lines width packed slots)) kept.packed_lines.sorted in
    ap sets.items (same_set nat_cmp_total exact_unsigned _ s.sources (λ t.
    contains-sources_of S p.marks (f s).0 t
    ∙ ap (λ (z : PictureLines). sets.contains z.marks ((f s).0, t)) (sym seen)
    ∙ marks_hold ks (f s).0 t
    ∙ ap (λ (k : Kept). has_mark S k.0 t ks) (sym there) ∙ own_sources ks i (f s) t rises (omega (arith, many, lt))
    ∙ ap (λ (k : Kept). list_any (eq_by_cmp nat_cmp t) k.1) there
    ∙ sym (contains-items s.sources t)))

-- a mark that is held is of a line that is held
pub marks_held : (precision width : ℕ) (packed : List ℕ) (slots : List Slot) (p : PictureLines)
    → seen_lines precision width packed slots ≡ p → (x : List ℕ) (t : ℕ) → sets.contains p.marks (x, t) ≡ true
    → sets.contains p.lines x ≡ true
marks_held precision width packed slots p seen x t h =
    let ks = kept_of width packed slots in
    ap (λ (z : PictureLines). sets.contains z.lines x) (sym seen) ∙ contains-from_list lines_total (lines_of width packed slots) x
    ∙ ap (list_any (eq_by_cmp S x)) (sym (kept_lines width packed slots))
    ∙ has_line ks (sym (marks_hold ks x t) ∙ ap (λ (z : PictureLines). sets.contains z.marks (x, t)) seen ∙ h)
  where
    has_line : (ks : List Kept) → has_mark S x t ks ≡ true → list_any (eq_by_cmp S x) (map (λ k. k.0) ks) ≡ true
    has_line [] e = absurd cc
    has_line (k ∷ ks) e = first (eq_by_cmp S x k.0) (list_any (eq_by_cmp nat_cmp t) k.1) (has_mark S x t ks)
        (list_any (eq_by_cmp S x) (map (λ k. k.0) ks)) (has_line ks) e
      where
        first : (a b c d : Bool) → (c ≡ true → d ≡ true) → ((a && b) || c) ≡ true → (a || d) ≡ true
        first true b c d f e = refl
        first false b c d f e = f e

-- the sources that were gathered for a new line are those that were given
pub with_own : (s : PictureLines) (x ss : List ℕ)
    → with_lines s ((x, sets.items (sets.insert_all (sets.empty {R = nat_cmp}) ss)) ∷ []) ≡ with_lines s ((x, ss) ∷ [])
with_own s x ss = ap (λ ms. record { precision = s.precision; width = s.width; lines = sets.insert s.lines x; marks = ms })
    (same_set line_marks_total line_marks_exact _ _ (λ m.
    contains-insert_all line_marks_total s.marks (marks_of ((x, sets.items (sets.insert_all (sets.empty {R = nat_cmp}) ss)) ∷ [])) m
    ∙ ap (λ b. sets.contains s.marks m || b)
    (any_marks S m.0 m.1 ((x, sets.items (sets.insert_all (sets.empty {R = nat_cmp}) ss)) ∷ [])
    ∙ ap (λ b. (eq_by_cmp S m.0 x && b) || false) (gathered m.1) ∙ sym (any_marks S m.0 m.1 ((x, ss) ∷ [])))
    ∙ sym (contains-insert_all line_marks_total s.marks (marks_of ((x, ss) ∷ [])) m)))
  where
    gathered : (t : ℕ) → list_any (eq_by_cmp nat_cmp t) (sets.items (sets.insert_all (sets.empty {R = nat_cmp}) ss))
        ≡ list_any (eq_by_cmp nat_cmp t) ss
    gathered t = sym (contains-items (sets.insert_all (sets.empty {R = nat_cmp}) ss) t) ∙ contains-insert_all nat_cmp_total sets.empty ss t
        ∙ ap (λ b. b || list_any (eq_by_cmp nat_cmp t) ss) (contains-empty nat_cmp t)
