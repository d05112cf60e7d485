-- The store of all lines of a picture: what stays where samples are put after those that it has, and what one line more leaves.
use Rattle.std.proofs.Common.{◌≡◌, ℕ, ◌+◌, ◌≤◌, ◌<◌, ◌^◌, Bool, true, false, cond, List, [], ◌∷◌, ◌++◌, length, map, Option, Some, None}
use Rattle.std.proofs.Common.{refl, ap, sym, subst, ◌∙◌, arith}
use Rattle.std.specs.Prelude.{IfSome, unwrap_or}
use Rattle.std.specs.declared.cmp.Ordering.{Ordering}
use Rattle.std.specs.BTreeMap.{is_at}
use Rattle.std.specs.Cmp.Lexicographic.{slice_cmp}
use Rattle.std.specs.List.{AllByRecursion}
use Rattle.std.specs.List.Sorted.{IsStrictlySortedBy}
use Rattle.std.specs.Map.{lookup, set_value}
use Rattle.std.specs.Option.{option_map}
use Rattle.std.specs.Ordering.{nat_cmp}
use Rattle.std.proofs.lemmas.List.{append-nil, length-append}
use Rattle.std.proofs.lemmas.Map.Steps.{set_value_same}
use Rattle.jls_values.specs.OrderedSet as set
use Rattle.jls_partial.specs.declared.slots.Slots.{Slots}
use Rattle.jls_partial.specs.declared.slots.Slot.{Slot}
use Rattle.jls_partial.specs.declared.packed_lines.PackedLines.{PackedLines}
use Rattle.jls_partial.specs.declared.line_place.LinePlace.{LinePlace}
use Rattle.jls_partial.specs.LineEntries.{LineEntry, PutsAt, PutsLine, lines_or}
use Rattle.jls_partial.specs.Slots.{slots_of}
use Rattle.jls_partial.specs.InsertFaults.{samples_fault}
use Rattle.jls_partial.specs.LineSet.{PictureLines, no_lines, with_lines}
use Rattle.jls_partial.specs.Marks.{marks_of}
use Rattle.jls_partial.specs.Packed.{Kept, lines_of, IsGap}
use Rattle.jls_partial.specs.PackedLines.{seen_lines, IsLineSet}
use Rattle.jls_partial.specs.LinePlace.{place_cmp}
use Rattle.jls_partial.specs.ReadingOrder.{place_total, same_place}
use Rattle.jls_partial.specs.Stored.{LineSlots, slots_of_entries, seen_entries, stored, stored_at, AreSlotsPacked, ChangesAt, Extends}
use Rattle.jls_partial.specs.Stored.{lines_in}
use Rattle.jls_partial.proofs.KeyedLists.{lookup-map, each_by, lookup_by}
use Rattle.jls_partial.proofs.LineSets.{none_kept, put_kept, put_seen, with_own, fitting_length, length_kept, marks_held}
use Rattle.jls_partial.proofs.PackedLines.{lines_stay, kept_lines, inside_more}

-- ---- more samples after those that are there

module _ (p w : ℕ) (packed more : List ℕ) where
  lines_same : (slots : List Slot) → AllByRecursion (λ s. s.start + w ≤ length packed) slots
      → lines_of w (packed ++ more) slots ≡ lines_of w packed slots
  lines_same slots inside = sym (kept_lines w (packed ++ more) slots) ∙ ap (map (λ (k : Kept). k.0)) (lines_stay w packed more slots inside)
      ∙ kept_lines w packed slots

  -- slots are seen alike where samples are put after the others
  seen_stays : (slots : List Slot) → IsLineSet p w packed slots → seen_lines p w (packed ++ more) slots ≡ seen_lines p w packed slots
  seen_stays slots kept = λ i. record {
    precision = p;
    width = w;
    lines = set.from_list (lines_same slots kept.packed_lines.inside i);
    marks = set.from_list (marks_of (lines_stay w packed more slots kept.packed_lines.inside i));
  }

  -- slots of a line set stay that where samples are put after the others
  kept_stays : (slots : List Slot) → IsLineSet p w packed slots → IsLineSet p w (packed ++ more) slots
  kept_stays slots kept =
      let longer = length-append packed more in
      let few = kept.packed_lines.few in
      let same = lines_same slots kept.packed_lines.inside in
      record {
        precision_at_most = kept.precision_at_most;
        width_at_least = kept.width_at_least;
        packed_lines = record {
          inside = inside_more w (length packed) (length (packed ++ more)) slots (omega (arith, longer)) kept.packed_lines.inside;
          few = omega (arith, longer, few);
          sorted = subst (IsStrictlySortedBy (slice_cmp nat_cmp)) (sym same) kept.packed_lines.sorted;
        };
        fitting = subst (AllByRecursion (λ samples. samples_fault p w samples ≡ None)) (sym same) kept.fitting;
      }

  entries_stay : (es : List LineSlots) → AllByRecursion (λ e. IsLineSet p w packed e.1) es
      → seen_entries p w (packed ++ more) es ≡ seen_entries p w packed es
  entries_stay [] h = refl
  entries_stay (e ∷ es) h = λ i. (e.0, seen_stays e.1 h.0 i) ∷ entries_stay es h.1 i

  each_stays : (es : List LineSlots) → AllByRecursion (λ e. IsLineSet p w packed e.1) es
      → AllByRecursion (λ e. IsLineSet p w (packed ++ more) e.1) es
  each_stays [] h = tt
  each_stays (e ∷ es) h = (kept_stays e.1 h.0, each_stays es h.1)

-- ---- the same of a store

abbrev seen_in : PackedLines → List LineSlots → List LineEntry
seen_in packed es = seen_entries packed.precision packed.width packed.samples.items es

abbrev are_in : PackedLines → List LineSlots → Type 0
are_in packed es = AreSlotsPacked packed.precision packed.width packed.samples.items es

module _ (old new : PackedLines) (longer : Extends old new) where
  pub all_stay : (es : List LineSlots) → are_in old es → seen_in new es ≡ seen_in old es
  all_stay es rows_packed =
      (λ i. seen_entries (longer.precision i) (longer.width i) (longer.samples i) es)
      ∙ entries_stay old.precision old.width old.samples.items longer.more es rows_packed.each

  -- all slots stay in order where samples are put after the others
  pub still_packed : (es : List LineSlots) → are_in old es → are_in new es
  still_packed es rows_packed = record {
    precision_at_most = subst (λ (n : ℕ). n ≤ 16) (sym longer.precision) rows_packed.precision_at_most;
    width_at_least = subst (λ (n : ℕ). 1 ≤ n) (sym longer.width) rows_packed.width_at_least;
    each = subst (λ (n : ℕ). AllByRecursion (λ e. IsLineSet n new.width new.samples.items e.1) es) (sym longer.precision)
        (subst (λ (n : ℕ). AllByRecursion (λ e. IsLineSet old.precision n new.samples.items e.1) es) (sym longer.width)
        (subst (λ (xs : List ℕ). AllByRecursion (λ e. IsLineSet old.precision old.width xs e.1) es) (sym longer.samples)
        (each_stays old.precision old.width old.samples.items longer.more es rows_packed.each)));
  }

-- ---- one line more

-- what a key has is changed, and nothing elsewhere
abbrev pub UpdatedBy : {K X : Type 0} → (K → K → Ordering) → List (K × X) → K → X → List (K × X) → Type 0
UpdatedBy {K} R es at x fs = (q : K) → lookup (is_at (R q)) fs ≡ cond (is_at (R at) q) (Some x) (lookup (is_at (R q)) es)

abbrev pub Updated : {X : Type 0} → List (LinePlace × X) → LinePlace → X → List (LinePlace × X) → Type 0
Updated es at x fs = UpdatedBy place_cmp es at x fs

module _ {X Y : Type 0} (f : X → Y) where
  pub keys-map : (es : List (LinePlace × X)) → map {A = LinePlace × Y} (λ e. e.0) (map (λ e. (e.0, f e.1)) es) ≡ map (λ e. e.0) es
  keys-map [] = refl
  keys-map (e ∷ es) = ap (λ t. e.0 ∷ t) (keys-map es)

  -- an update of a list is one of the mapped list
  pub updated-map : (es fs : List (LinePlace × X)) (at : LinePlace) (x : X) → Updated es at x fs
      → Updated (map (λ e. (e.0, f e.1)) es) at (f x) (map (λ e. (e.0, f e.1)) fs)
  updated-map es fs at x u q =
      lookup-map f (is_at (place_cmp q)) fs ∙ ap (option_map f) (u q)
      ∙ elim (is_at (place_cmp at) q) as (λ b. option_map f (cond b (Some x) (lookup (is_at (place_cmp q)) es))
      ≡ cond b (Some (f x)) (lookup (is_at (place_cmp q)) (map (λ e. (e.0, f e.1)) es))) [
        | true ↦ refl
        | false ↦ sym (lookup-map f (is_at (place_cmp q)) es)
      ]

  -- a value that is set in a mapped list is the mapped value, set in the list
  pub set_value-map : (t : LinePlace → Bool) (es : List (LinePlace × X)) (x : X)
      → map (λ e. (e.0, f e.1)) (set_value t es x) ≡ set_value t (map (λ e. (e.0, f e.1)) es) (f x)
  set_value-map t [] x = refl
  set_value-map t (e ∷ es) x =
      elim (t e.0) as (λ b. map (λ (e : LinePlace × X). (e.0, f e.1)) (cond b ((e.0, x) ∷ es) (e ∷ set_value t es x))
      ≡ cond b ((e.0, f x) ∷ map (λ (e : LinePlace × X). (e.0, f e.1)) es)
      ((e.0, f e.1) ∷ set_value t (map (λ (e : LinePlace × X). (e.0, f e.1)) es) (f x))) [
        | true ↦ refl
        | false ↦ ap (λ t. (e.0, f e.1) ∷ t) (set_value-map t es x)
      ]

-- the slots of a place are others now
module _ (old new : PackedLines) (longer : Extends old new) (es fs : List LineSlots) (at : LinePlace) (slots : List Slot)
    (rows_packed : are_in old es) (u : Updated es at slots fs) where
  -- the place has the new slots, and each other what it had
  puts_at : PutsAt (seen_in old es) at (seen_lines new.precision new.width new.samples.items slots) (seen_in new fs)
  puts_at = λ q.
      updated-map (seen_lines new.precision new.width new.samples.items) es fs at slots u q
      ∙ ap (λ (xs : List LineEntry). cond (is_at (place_cmp at) q) (Some (seen_lines new.precision new.width new.samples.items slots))
      (lookup (is_at (place_cmp q)) xs))
      (all_stay old new longer es rows_packed)

  -- where the slots of a place are others now, its lines have changed, and nothing elsewhere
  pub changes_at : (C : PictureLines → PictureLines → Type 0)
      → C (stored_at (stored old (seen_in old es)) at) (seen_lines new.precision new.width new.samples.items slots)
      → ChangesAt (stored old (seen_in old es)) at C (stored new (seen_in new fs))
  changes_at C changed = record {
    precision = longer.precision;
    width = longer.width;
    lines = seen_lines new.precision new.width new.samples.items slots;
    changed = changed;
    puts = puts_at;
  }

  -- all slots are in order with those that are changed at one place, if these are
  pub more_packed : IsLineSet new.precision new.width new.samples.items slots → IsStrictlySortedBy place_cmp (map (λ e. e.0) fs)
      → are_in new fs
  more_packed kept order =
      let P : LineSlots → Type 0 = λ e. IsLineSet new.precision new.width new.samples.items e.1 in
      let still = still_packed old new longer es rows_packed in
      record {
        precision_at_most = still.precision_at_most;
        width_at_least = still.width_at_least;
        each = each_by place_total same_place P fs order (λ q. subst (λ (o : Option (List Slot)). IfSome o (λ ss. P (q, ss))) (sym (u q))
            (elim (is_at (place_cmp at) q) as (λ b. IfSome (cond b (Some slots) (lookup (is_at (place_cmp q)) es)) (λ ss. P (q, ss))) [
              | true ↦ kept
              | false ↦ lookup_by place_total same_place P es q still.each
            ]));
      }

-- what is seen has the places of the rows
pub ordered_slots : (es : List (LinePlace × Slots)) → IsStrictlySortedBy place_cmp (map (λ e. e.0) es)
    → IsStrictlySortedBy place_cmp (map (λ e. e.0) (slots_of_entries es))
ordered_slots es order = subst (IsStrictlySortedBy place_cmp) (sym (keys-map slots_of es)) order

-- places that rise still do where their slots are seen as lines
pub ordered_seen : (packed : PackedLines) (es : List (LinePlace × Slots)) → IsStrictlySortedBy place_cmp (map (λ e. e.0) es)
    → IsStrictlySortedBy place_cmp (map (λ e. e.0) (seen_in packed (slots_of_entries es)))
ordered_seen packed es order =
    subst (IsStrictlySortedBy place_cmp)
    (sym (keys-map (seen_lines packed.precision packed.width packed.samples.items) (slots_of_entries es)))
    (ordered_slots es order)

-- the lines of a place
pub lookup_seen : (packed : PackedLines) (es : List (LinePlace × Slots)) (at : LinePlace) (o : Option Slots)
    → lookup (is_at (place_cmp at)) es ≡ o
    → lookup (is_at (place_cmp at)) (seen_in packed (slots_of_entries es)) ≡ option_map (λ slots. lines_in packed slots) o
lookup_seen packed es at o found =
    lookup-map (seen_lines packed.precision packed.width packed.samples.items) (is_at (place_cmp at)) (slots_of_entries es)
    ∙ ap (option_map (seen_lines packed.precision packed.width packed.samples.items))
    (lookup-map slots_of (is_at (place_cmp at)) es ∙ ap (option_map slots_of) found)
    ∙ elim o as (λ o. option_map (seen_lines packed.precision packed.width packed.samples.items) (option_map slots_of o)
    ≡ option_map (λ slots. lines_in packed slots) o) [
      | None ↦ refl
      | Some slots ↦ refl
    ]

pub lines_found : (packed : PackedLines) (es : List (LinePlace × Slots)) (at : LinePlace) (slots : Slots) (none : PictureLines)
    → lookup (is_at (place_cmp at)) es ≡ Some slots → lines_or none (seen_in packed (slots_of_entries es)) at ≡ lines_in packed slots
lines_found packed es at slots none found = ap (λ (o : Option PictureLines). unwrap_or o none) (lookup_seen packed es at (Some slots) found)

pub lines_missing : (packed : PackedLines) (es : List (LinePlace × Slots)) (at : LinePlace) (none : PictureLines)
    → lookup (is_at (place_cmp at)) es ≡ None → lines_or none (seen_in packed (slots_of_entries es)) at ≡ none
lines_missing packed es at none missing = ap (λ (o : Option PictureLines). unwrap_or o none) (lookup_seen packed es at None missing)

-- the slots of such a place
pub slots_found : (packed : PackedLines) (es : List (LinePlace × Slots)) (at : LinePlace) (slots : Slots)
    → are_in packed (slots_of_entries es)
    → lookup (is_at (place_cmp at)) es ≡ Some slots → IsLineSet packed.precision packed.width packed.samples.items (slots_of slots)
slots_found packed es at slots rows_packed found =
    let P : LineSlots → Type 0 = λ e. IsLineSet packed.precision packed.width packed.samples.items e.1 in
    subst (λ (o : Option (List Slot)). IfSome o (λ ss. P (at, ss)))
    (lookup-map slots_of (is_at (place_cmp at)) es ∙ ap (option_map slots_of) found)
    (lookup_by place_total same_place P (slots_of_entries es) at rows_packed.each)

-- an slots that is seen as the one before changes nothing
pub entries_same : (es gs : List (LinePlace × Slots)) (at : LinePlace) (x y : Slots) → lookup (is_at (place_cmp at)) es ≡ Some x
    → gs ≡ set_value (is_at (place_cmp at)) es y → slots_of y ≡ slots_of x → slots_of_entries gs ≡ slots_of_entries es
entries_same es gs at x y found is same =
    let t = is_at (place_cmp at) in
    ap slots_of_entries is ∙ set_value-map slots_of t es y ∙ ap (set_value t (slots_of_entries es)) same
    ∙ set_value_same t (slots_of_entries es) (slots_of x) (lookup-map slots_of t es ∙ ap (option_map slots_of) found)

-- ---- what is known of the lines of a place

-- slots that are seen with one line more put that line
pub puts_line : (L0 : PictureLines) (x ss : List ℕ) (packed : PackedLines) (slots : List Slot)
    → IsLineSet packed.precision packed.width packed.samples.items slots → length slots < 2 ^ 64
    → seen_lines packed.precision packed.width packed.samples.items slots ≡ with_lines L0 ((x, ss) ∷ [])
    → PutsLine L0 x ss (seen_lines packed.precision packed.width packed.samples.items slots)
puts_line L0 x ss packed slots kept small puts =
    let now = seen_lines packed.precision packed.width packed.samples.items slots in
    let many = length_kept packed.precision packed.width packed.samples.items slots now kept (λ _. now) in
    record {
      new_is = puts;
      countable = omega (arith, many, small);
      marks_held = λ y t h. marks_held packed.precision packed.width packed.samples.items slots now (λ _. now) y t h;
    }

-- the first line of a place
module _ (p w : ℕ) (packed x ss : List ℕ) (slots : List Slot) (narrow : p ≤ 16) (wide : 1 ≤ w) (fits : samples_fault p w x ≡ None)
    (is : slots ≡ record { start = length packed; sources = set.insert_all set.empty ss } ∷ []) where
  gap : IsGap (slice_cmp nat_cmp) [] 0 x
  gap = record { within = omega arith; below = λ k lt. absurd (omega arith); above = λ k le lt. absurd (omega arith) }

  first_kept : IsLineSet p w (packed ++ x) slots
  first_kept = subst (IsLineSet p w (packed ++ x)) (sym is)
      (put_kept p w packed x [] 0 (none_kept p w packed narrow wide) gap fits (fitting_length p w x fits) (set.insert_all set.empty ss))

  -- one slot, whose samples are put after all others, is seen as one line
  first_seen : seen_lines p w (packed ++ x) slots ≡ with_lines (no_lines p w) ((x, ss) ∷ [])
  first_seen =
      ap (seen_lines p w (packed ++ x)) is
      ∙ put_seen p w packed x [] 0 (none_kept p w packed narrow wide) gap fits (fitting_length p w x fits) (set.insert_all set.empty ss)
      ∙ with_own (no_lines p w) x ss

-- what is known of the first line of a place, once its samples are put after the others
pub record IsFirst (old new : PackedLines) (x ss : List ℕ) (slots : List Slot) : Type 0 where
  pub longer : Extends old new
  pub kept : IsLineSet new.precision new.width new.samples.items slots
  pub puts : PutsLine (no_lines old.precision old.width) x ss (seen_lines new.precision new.width new.samples.items slots)

-- one slot, whose samples are put after all others, is the first line of its place
pub first_line : (old new : PackedLines) (x ss : List ℕ) (slots : List Slot) (es : List LineSlots) → are_in old es
    → samples_fault old.precision old.width x ≡ None
    → slots ≡ record { start = length old.samples.items; sources = set.insert_all set.empty ss } ∷ []
    → new.precision ≡ old.precision → new.width ≡ old.width → new.samples.items ≡ old.samples.items ++ x → IsFirst old new x ss slots
first_line old new x ss slots es rows_packed fits is precision width samples =
    let narrow = rows_packed.precision_at_most in
    let wide = rows_packed.width_at_least in
    let kept : IsLineSet new.precision new.width new.samples.items slots =
    subst (λ (n : ℕ). IsLineSet n new.width new.samples.items slots) (sym precision)
    (subst (λ (n : ℕ). IsLineSet old.precision n new.samples.items slots) (sym width)
    (subst (λ (xs : List ℕ). IsLineSet old.precision old.width xs slots) (sym samples)
    (first_kept old.precision old.width old.samples.items x ss slots narrow wide fits is))) in
    record {
      longer = record { precision = precision; width = width; more = x; samples = samples };
      kept = kept;
      puts = puts_line (no_lines old.precision old.width) x ss new slots kept
          (subst (λ (ts : List Slot). length ts < 2 ^ 64) (sym is) (omega arith))
          ((λ i. seen_lines (precision i) (width i) (samples i) slots)
          ∙ first_seen old.precision old.width old.samples.items x ss slots narrow wide fits is);
    }

-- what is packed has its own samples
pub itself : (packed : PackedLines) → Extends packed packed
itself packed = record { precision = refl; width = refl; more = []; samples = sym (append-nil packed.samples.items) }
