-- What one reading more leaves in the store, and of the partial picture that it shows.
use Rattle.std.proofs.Common.{◌≡◌, ℕ, ◌<◌, ◌≤◌, ◌^◌, Bool, true, false, cond, ◌&&◌, ◌||◌, List, [], ◌∷◌, length, get_or, map, suc, Option}
use Rattle.std.proofs.Common.{Some, None, refl, ap, sym, subst, ◌∙◌, arith}
use Rattle.std.specs.Prelude.{IfSome, unwrap_or}
use Rattle.std.specs.declared.cmp.Ordering.{Ordering}
use Rattle.std.specs.BTreeMap.{is_at}
use Rattle.std.specs.Cmp.{IsTotalOrder}
use Rattle.std.specs.List.{list_any, AllByRecursion}
use Rattle.std.specs.List.Sorted.{IsStrictlySortedBy}
use Rattle.std.specs.Map.{lookup}
use Rattle.std.specs.Ordering.{nat_cmp, eq_by_cmp, is_eq}
use Rattle.std.proofs.lemmas.Bool.{and_parts}
use Rattle.std.proofs.lemmas.Cmp.{tied_itself, eq_by_cmp_equiv}
use Rattle.std.proofs.lemmas.Map.Lookups.{exact_unsigned}
use Rattle.jls_values.specs.OrderedSet as set
use Rattle.jls_values.specs.OrderedSetLaws.{same_set, contains-items, contains-insert, contains-insert_all}
use Rattle.jls_values.specs.Shape.{PictureShape}
use Rattle.jls_values.specs.OrderedSetLaws.{or_false}
use Rattle.jls_values.proofs.Tests.{either, tied}
use Rattle.jls_partial.specs.declared.line_place.LinePlace.{LinePlace}
use Rattle.jls_partial.specs.Entries.{at_place, partial_of}
use Rattle.jls_partial.specs.Held.{kept_entry, IsLineEntry, IsStore, IsStoreOf}
use Rattle.jls_partial.specs.LineEntries.{LineEntry, PutsLine, lines_or, PutsAt}
use Rattle.jls_partial.specs.InsertFaults.{reading_fault}
use Rattle.jls_partial.specs.LineSet.{PictureLines, no_lines, with_lines}
use Rattle.jls_partial.specs.LineSetLaws.{lines_total, line_marks_total}
use Rattle.jls_partial.specs.Marks.{marks_of}
use Rattle.jls_partial.specs.Partial.{with_all}
use Rattle.jls_partial.specs.LinePlace.{place_cmp, place_of}
use Rattle.jls_partial.specs.Reading.{Reading, reading_cmp}
use Rattle.jls_partial.specs.ReadingOrder.{place_total, reading_total, reading_exact, marks_total, marks_exact, eq_reading, same_place}
use Rattle.jls_partial.specs.ReadingOrder.{same_samples}
use Rattle.jls_partial.specs.Stored.{StoredLines, stored_at, TakesLine}
use Rattle.jls_partial.proofs.BareEntries.{items_rise, all_members}
use Rattle.jls_partial.proofs.Entries.{S, each_from_lookup, lookup_from_each}
use Rattle.jls_partial.proofs.MarkSets.{has_mark, any_marks}
use Rattle.jls_partial.proofs.Store.{IsAt, is_there, reading_there, mark_there}

-- a fact of all that a set contains is one of its items
pub all_items : {K : Type 0} {R : K → K → Ordering} (o : IsTotalOrder R) (P : K → Type 0) (s : set.OrderedSet R)
    → ((k : K) → set.contains s k ≡ true → P k) → AllByRecursion P (set.items s)
all_items o P s f = all_members o P (set.items s) (λ k e. f k (contains-items s k ∙ e))

-- a set that contains something has an item
some_item : (s : set.OrderedSet S) (x : List ℕ) → set.contains s x ≡ true → 1 ≤ length (set.items s)
some_item s x h = some (set.items s) (sym (contains-items s x) ∙ h)
  where
    some : (xs : List (List ℕ)) → list_any (eq_by_cmp S x) xs ≡ true → 1 ≤ length xs
    some [] e = absurd cc
    some (y ∷ xs) e = omega arith

-- numbers of 32 bits, one by one
pub all_small : (ss : List ℕ) → ((i : ℕ) → get_or ss i 0 < 2 ^ 32) → AllByRecursion (λ n. n < 2 ^ 32) ss
all_small [] h = tt
all_small (s ∷ ss) h = (h 0, all_small ss (λ i. h (suc i)))

-- a number in a list of small ones is small
pub small_of : (ss : List ℕ) (s : ℕ) → AllByRecursion (λ n. n < 2 ^ 32) ss → list_any (eq_by_cmp nat_cmp s) ss ≡ true → s < 2 ^ 32
small_of [] s h e = absurd cc
small_of (t ∷ ss) s h e =
    elim (eq_by_cmp nat_cmp s t) as (λ b. eq_by_cmp nat_cmp s t ≡ b → (b || list_any (eq_by_cmp nat_cmp s) ss) ≡ true → s < 2 ^ 32) [
      | true ↦ λ t_is _. subst (λ (n : ℕ). n < 2 ^ 32) (sym (exact_unsigned s t (tied (nat_cmp s t) t_is))) h.0
      | false ↦ λ _ f. small_of ss s h.1 f
    ] refl e

module _ (shape : PictureShape) (at : LinePlace) (L0 L : PictureLines) (x ss : List ℕ) (old : IsAt shape at L0) (puts : PutsLine L0 x ss L)
    (fits : reading_fault shape at.component at.line x ≡ None) (small : AllByRecursion (λ n. n < 2 ^ 32) ss) where
  abbrev grown : PictureLines
  grown = with_lines L0 ((x, ss) ∷ [])

  lines_hold : (y : List ℕ) → set.contains L.lines y ≡ (eq_by_cmp S y x || set.contains L0.lines y)
  lines_hold y = ap (λ (z : PictureLines). set.contains z.lines y) puts.new_is ∙ contains-insert lines_total L0.lines x y

  -- the marks after the line was put are those before, and its own
  marks_hold : (y : List ℕ) (s : ℕ) → set.contains L.marks (y, s) ≡ (set.contains L0.marks (y, s) || has_mark S y s ((x, ss) ∷ []))
  marks_hold y s =
      ap (λ (z : PictureLines). set.contains z.marks (y, s)) puts.new_is
      ∙ contains-insert_all line_marks_total L0.marks (marks_of ((x, ss) ∷ [])) (y, s)
      ∙ ap (λ b. set.contains L0.marks (y, s) || b) (any_marks S y s ((x, ss) ∷ []))

  -- lines into which one more was put are an entry of the store
  line_put : IsLineEntry shape (at, L)
  line_put = record {
    entry = record {
      read = some_item L.lines x (lines_hold x ∙ ap (λ b. b || set.contains L0.lines x) (ap is_eq (tied_itself lines_total x)));
      sorted = items_rise L.lines;
      countable = puts.countable;
      fitting = all_items lines_total (λ y. reading_fault shape at.component at.line y ≡ None) L.lines (λ y h.
          either (reading_fault shape at.component at.line y ≡ None) (eq_by_cmp S y x) (set.contains L0.lines y)
          (λ e. subst (λ (z : List ℕ). reading_fault shape at.component at.line z ≡ None) (sym (same_samples y x e)) fits) (old.fitting y)
          (sym (lines_hold y) ∙ h));
    };
    precision = ap (λ (z : PictureLines). z.precision) puts.new_is ∙ old.precision;
    width = ap (λ (z : PictureLines). z.width) puts.new_is ∙ old.width;
    marks_held = puts.marks_held;
    small = λ y s h.
        either (s < 2 ^ 32) (set.contains L0.marks (y, s)) (has_mark S y s ((x, ss) ∷ []))
        (old.small y s)
        (λ e. small_of ss s small (and_parts (eq_by_cmp S y x) (list_any (eq_by_cmp nat_cmp s) ss)
        (sym (or_false (eq_by_cmp S y x && list_any (eq_by_cmp nat_cmp s) ss)) ∙ e)).1)
        (sym (marks_hold y s) ∙ h);
  }

  module _ (p w : ℕ) (es fs : List LineEntry) (kept : IsStore shape es) (order : IsStrictlySortedBy place_cmp (map (λ e. e.0) fs))
      (puts_at : PutsAt es at L fs) where
    kept_put : IsStore shape fs
    kept_put = record {
      sorted = order;
      each = each_from_lookup (IsLineEntry shape) fs order
          (λ q. subst (λ (o : Option PictureLines). IfSome o (λ K. IsLineEntry shape (q, K))) (sym (puts_at q)) (step q));
    }
      where
        step : (q : LinePlace)
            → IfSome (cond (is_at (place_cmp at) q) (Some L) (lookup (is_at (place_cmp q)) es)) (λ K. IsLineEntry shape (q, K))
        step q =
            elim (is_at (place_cmp at) q) as (λ b. is_at (place_cmp at) q ≡ b
            → IfSome (cond b (Some L) (lookup (is_at (place_cmp q)) es)) (λ K. IsLineEntry shape (q, K))) [
              | true ↦ λ e. subst (λ (z : LinePlace). IsLineEntry shape (z, L)) (same_place at q e) line_put
              | false ↦ λ e. lookup_from_each (IsLineEntry shape) es q kept.each
            ] refl

    turned : (a b : LinePlace) → eq_by_cmp place_cmp a b ≡ eq_by_cmp place_cmp b a
    turned a b = (eq_by_cmp_equiv place_total).symm a b

    eq_at : (r : Reading) (b : Bool) → is_at (place_cmp at) (place_of r) ≡ b
        → eq_by_cmp reading_cmp r (at_place at x) ≡ (b && eq_by_cmp S r.samples x)
    eq_at r b e = eq_reading r at x ∙ ap (λ c. c && eq_by_cmp S r.samples x) (turned (place_of r) at ∙ e)

    module _ (was : L0 ≡ lines_or (no_lines p w) es at) where
      readings_put : (r : Reading)
          → set.contains (lines_or (no_lines p w) fs (place_of r)).lines r.samples
          ≡ (eq_by_cmp reading_cmp r (at_place at x) || set.contains (lines_or (no_lines p w) es (place_of r)).lines r.samples)
      readings_put r =
          ap (λ (o : Option PictureLines). set.contains (unwrap_or o (no_lines p w)).lines r.samples) (puts_at (place_of r))
          ∙ elim (is_at (place_cmp at) (place_of r)) as (λ b. is_at (place_cmp at) (place_of r) ≡ b →
          set.contains (unwrap_or (cond b (Some L) (lookup (is_at (place_cmp (place_of r))) es)) (no_lines p w)).lines r.samples
          ≡ (eq_by_cmp reading_cmp r (at_place at x) || set.contains (lines_or (no_lines p w) es (place_of r)).lines r.samples)) [
            | true ↦ λ e. lines_hold r.samples ∙ (λ i. sym (eq_at r true e) i || set.contains (was_there e i).lines r.samples)
            | false ↦ λ e. ap (λ b. b || set.contains (lines_or (no_lines p w) es (place_of r)).lines r.samples) (sym (eq_at r false e))
          ] refl
        where
          was_there : is_at (place_cmp at) (place_of r) ≡ true → L0 ≡ lines_or (no_lines p w) es (place_of r)
          was_there e = was ∙ ap (lines_or (no_lines p w) es) (same_place at (place_of r) e)

      marks_put : (r : Reading) (s : ℕ)
          → set.contains (lines_or (no_lines p w) fs (place_of r)).marks (r.samples, s)
          ≡ (set.contains (lines_or (no_lines p w) es (place_of r)).marks (r.samples, s)
          || has_mark reading_cmp r s ((at_place at x, ss) ∷ []))
      marks_put r s =
          ap (λ (o : Option PictureLines). set.contains (unwrap_or o (no_lines p w)).marks (r.samples, s)) (puts_at (place_of r))
          ∙ elim (is_at (place_cmp at) (place_of r)) as (λ b. is_at (place_cmp at) (place_of r) ≡ b →
          set.contains (unwrap_or (cond b (Some L) (lookup (is_at (place_cmp (place_of r))) es)) (no_lines p w)).marks (r.samples, s)
          ≡ (set.contains (lines_or (no_lines p w) es (place_of r)).marks (r.samples, s)
          || has_mark reading_cmp r s ((at_place at x, ss) ∷ []))) [
            | true ↦ λ e. marks_hold r.samples s
                ∙ (λ i. set.contains (was_there e i).marks (r.samples, s)
                || ((sym (eq_at r true e) i && list_any (eq_by_cmp nat_cmp s) ss) || false))
            | false ↦ λ e. sym (ap (λ b. set.contains (lines_or (no_lines p w) es (place_of r)).marks (r.samples, s)
                || ((b && list_any (eq_by_cmp nat_cmp s) ss) || false)) (eq_at r false e) ∙ or_false _)
          ] refl
        where
          was_there : is_at (place_cmp at) (place_of r) ≡ true → L0 ≡ lines_or (no_lines p w) es (place_of r)
          was_there e = was ∙ ap (lines_or (no_lines p w) es) (same_place at (place_of r) e)

      seen_put : partial_of shape (map kept_entry fs) ≡ with_all (partial_of shape (map kept_entry es)) ((at_place at x, ss) ∷ [])
      seen_put =
          let k = at_place at x in
          let before = partial_of shape (map kept_entry es) in
          let after = partial_of shape (map kept_entry fs) in
          λ i. record {
            shape = shape;
            readings = same_set reading_total reading_exact after.readings (set.insert before.readings k) (λ r.
                reading_there p w shape fs kept_put r ∙ readings_put r
                ∙ ap (λ b. eq_by_cmp reading_cmp r k || b) (sym (reading_there p w shape es kept r))
                ∙ sym (contains-insert reading_total before.readings k r)) i;
            marks = same_set marks_total marks_exact after.marks (set.insert_all before.marks (marks_of ((k, ss) ∷ []))) (λ m.
                mark_there p w shape fs kept_put m.0 m.1 ∙ marks_put m.0 m.1
                ∙ (λ j. sym (mark_there p w shape es kept m.0 m.1) j || sym (any_marks reading_cmp m.0 m.1 ((k, ss) ∷ [])) j)
                ∙ sym (contains-insert_all marks_total before.marks (marks_of ((k, ss) ∷ [])) m)) i;
          }

-- of a store that took one reading: it is one for the picture, which has the reading with its sources
pub store_put : (shape : PictureShape) (old new : StoredLines) (at : LinePlace) (x ss : List ℕ) → IsStoreOf shape old
    → reading_fault shape at.component at.line x ≡ None → AllByRecursion (λ n. n < 2 ^ 32) ss
    → IsStrictlySortedBy place_cmp (map (λ e. e.0) new.entries) → TakesLine old at x ss new
    → IsStoreOf shape new × (partial_of shape (map kept_entry new.entries)
    ≡ with_all (partial_of shape (map kept_entry old.entries)) ((at_place at x, ss) ∷ []))
store_put shape old new at x ss is fits small order takes =
    let there = is_there shape old.precision old.width old.entries at is.precision is.width is.kept in (
      record {
        precision = takes.precision ∙ is.precision;
        width = takes.width ∙ is.width;
        kept = kept_put shape at (stored_at old at) takes.lines x ss there takes.changed fits small old.precision old.width old.entries
            new.entries is.kept order takes.puts;
      },
      seen_put shape at (stored_at old at) takes.lines x ss there takes.changed fits small old.precision old.width old.entries new.entries
          is.kept order takes.puts refl,
    )
