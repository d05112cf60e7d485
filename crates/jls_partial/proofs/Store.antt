-- What the store keeps, as entries and as a partial picture.
use Rattle.std.proofs.Common.{◌≡◌, ℕ, ◌<◌, ◌^◌, true, false, ◌&&◌, List, [], ◌∷◌, length, map, Option}
use Rattle.std.proofs.Common.{Some, None, refl, ap, sym, subst, ◌∙◌, arith}
use Rattle.std.specs.Prelude.{IfSome, unwrap_or}
use Rattle.std.specs.declared.cmp.Ordering.{Ordering}
use Rattle.std.specs.BTreeMap.{is_at}
use Rattle.std.specs.List.{list_any, AllByRecursion}
use Rattle.std.specs.List.Sorted.{IsStrictlySortedBy}
use Rattle.std.specs.Map.{lookup}
use Rattle.std.specs.Option.{option_map}
use Rattle.std.specs.Ordering.{nat_cmp, eq_by_cmp}
use Rattle.std.proofs.lemmas.Cmp.{nat_cmp_total}
use Rattle.std.proofs.lemmas.Map.Lookups.{exact_unsigned}
use Rattle.jls_values.specs.OrderedSet as set
use Rattle.jls_values.specs.OrderedSetLaws.{same_set, contains-items, contains-empty, items-from_list}
use Rattle.jls_values.specs.Shape.{PictureShape}
use Rattle.jls_values.proofs.Tests.{implied}
use Rattle.jls_partial.specs.declared.line_place.LinePlace.{LinePlace}
use Rattle.jls_partial.specs.Entries.{Entry, BareEntry, bare, readings_of_entries, partial_of}
use Rattle.jls_partial.specs.Held.{IsEntry, AreEntries, kept_entry, bare_entry, IsLineEntry, IsStore, IsStoreOf}
use Rattle.jls_partial.specs.LineEntries.{LineEntry, lines_or}
use Rattle.jls_partial.specs.InsertFaults.{reading_fault}
use Rattle.jls_partial.specs.LineSet.{PictureLines, AreLineMarksHeld, no_lines, kept_lines, line_sources}
use Rattle.jls_partial.specs.LineSetLaws.{lines_total, lines_exact}
use Rattle.jls_partial.specs.Marks.{mark_cmp, sources_of}
use Rattle.jls_partial.specs.MarkLaws.{contains-sources_of}
use Rattle.jls_partial.specs.Packed.{Kept}
use Rattle.jls_partial.specs.Partial.{PartialPicture, holds, readings_at, sources_at, IsFitting, IsCountable, AreMarksHeld}
use Rattle.jls_partial.specs.Partial.{AreSourcesSmall}
use Rattle.jls_partial.specs.LinePlace.{place, place_cmp, place_of}
use Rattle.jls_partial.specs.Reading.{Reading, reading_of, reading_cmp}
use Rattle.jls_partial.specs.Stored.{StoredLines, stored_at, holds_line}
use Rattle.jls_partial.specs.Text.{entries}
use Rattle.jls_partial.proofs.BareEntries.{items_rise}
use Rattle.jls_partial.proofs.Entries.{S, samples_at, lookup_from_each, holds_kept, fits_kept, countable_at, any_all}
use Rattle.jls_partial.proofs.KeyedLists.{lookup-map}
use Rattle.jls_partial.proofs.KeptEntries.{SourcesRise, kept_at, readings_are, holds_reading, holds_mark, has-entries, entries_again}
use Rattle.jls_partial.proofs.MarkSets.{has_item, has_mark, any_items, has_given, named}
use Rattle.jls_partial.proofs.ReadBack.{readings_kept}

-- ---- what is kept, as entries

pub bare_kept : (es : List LineEntry) → map bare (map kept_entry es) ≡ map bare_entry es
bare_kept [] = refl
bare_kept (e ∷ es) = λ i. (e.0, named (line_sources e.1) (set.items e.1.lines) i) ∷ bare_kept es i

same_keys : (es : List LineEntry) → map (λ (e : BareEntry). e.0) (map bare_entry es) ≡ map (λ (e : LineEntry). e.0) es
same_keys [] = refl
same_keys (e ∷ es) = ap (λ t. e.0 ∷ t) (same_keys es)

each_bare : (shape : PictureShape) (es : List LineEntry) → AllByRecursion (IsLineEntry shape) es
    → AllByRecursion (IsEntry shape) (map bare_entry es)
each_bare shape [] h = tt
each_bare shape (e ∷ es) h = (h.0.entry, each_bare shape es h.1)

-- what a store has is entries of its shape
pub are_entries : (shape : PictureShape) (es : List LineEntry) → IsStore shape es → AreEntries shape (map bare (map kept_entry es))
are_entries shape es kept = subst (AreEntries shape) (sym (bare_kept es)) (record {
  sorted = subst (IsStrictlySortedBy place_cmp) (sym (same_keys es)) kept.sorted;
  each = each_bare shape es kept.each;
})

-- the sources of each line of a store rise
sources_rise : (es : List LineEntry) → SourcesRise (map kept_entry es)
sources_rise [] = tt
sources_rise (e ∷ es) = (one (set.items e.1.lines), sources_rise es)
  where
    one : (xs : List (List ℕ)) → AllByRecursion (λ (k : Kept). IsStrictlySortedBy nat_cmp k.1) (map (λ x. (x, line_sources e.1 x)) xs)
    one [] = tt
    one (x ∷ xs) = (items_rise _, one xs)

pub store_entries : (shape : PictureShape) (es : List LineEntry) → IsStore shape es
    → entries (partial_of shape (map kept_entry es)) ≡ map kept_entry es
store_entries shape es kept = entries_again shape (map kept_entry es) (are_entries shape es kept) (sources_rise es)

-- no entries are those of each shape
pub none_stored : (shape : PictureShape) → IsStore shape []
unfolding IsStrictlySortedBy
none_stored shape = record { sorted = tt; each = tt }

-- ---- what is kept at a place

-- no lines have no items
pub no_items : set.items (set.empty {R = S}) ≡ []
unfolding IsStrictlySortedBy
no_items = items-from_list lines_total [] tt

-- no lines have no item, so that no number is one of theirs
pub none_below : (p w i : ℕ) (L : PictureLines) → L ≡ no_lines p w → i < length (set.items L.lines) → ⊥
none_below p w i L none lt =
    let empty : length (set.items L.lines) ≡ 0 = ap (λ (K : PictureLines). length (set.items K.lines)) none ∙ ap length no_items in
    omega (arith, empty, lt)

kept_none : (p w : ℕ) → kept_lines (no_lines p w) ≡ []
kept_none p w = ap (map (λ x. (x, line_sources (no_lines p w) x))) no_items

-- what entries keep at a place is what the store has there
pub kept_there : (p w : ℕ) (es : List LineEntry) (at : LinePlace)
    → kept_at (map kept_entry es) at ≡ kept_lines (lines_or (no_lines p w) es at)
kept_there p w es at =
    ap (λ o. unwrap_or o []) (lookup-map kept_lines (is_at (place_cmp at)) es)
    ∙ elim (lookup (is_at (place_cmp at)) es) as (λ (o : Option PictureLines). unwrap_or (option_map kept_lines o) []
    ≡ kept_lines (unwrap_or o (no_lines p w))) [
      | None ↦ sym (kept_none p w)
      | Some L ↦ refl
    ]

-- the samples that entries have at a place are the lines that the store has there
pub samples_there : (p w : ℕ) (es : List LineEntry) (at : LinePlace)
    → samples_at (map bare (map kept_entry es)) at ≡ set.items (lines_or (no_lines p w) es at).lines
samples_there p w es at =
    ap (λ bs. samples_at bs at) (bare_kept es)
    ∙ ap (λ o. unwrap_or o []) (lookup-map (λ (L : PictureLines). set.items L.lines) (is_at (place_cmp at)) es)
    ∙ elim (lookup (is_at (place_cmp at)) es) as (λ (o : Option PictureLines). unwrap_or
    (option_map (λ (L : PictureLines). set.items L.lines) o) [] ≡ set.items (unwrap_or o (no_lines p w)).lines) [
      | None ↦ sym no_items
      | Some L ↦ refl
    ]

-- what is known of the lines at a place, also where there are none
pub record IsAt (shape : PictureShape) (at : LinePlace) (L : PictureLines) : Type 0 where
  pub precision : L.precision ≡ shape.precision
  pub width : L.width ≡ shape.width
  pub marks_held : AreLineMarksHeld L
  pub small : (samples : List ℕ) (source : ℕ) → set.contains L.marks (samples, source) ≡ true → source < 2 ^ 32
  pub fitting : (samples : List ℕ) → set.contains L.lines samples ≡ true → reading_fault shape at.component at.line samples ≡ None

pub not_in_empty : {K X : Type 0} (R : K → K → Ordering) (k : K) → set.contains {R = R} set.empty k ≡ true → X
not_in_empty R k e = let bad : true ≡ false = sym e ∙ contains-empty R k in absurd cc

-- what a store has at a place, or no lines, is in order there
pub is_there : (shape : PictureShape) (p w : ℕ) (es : List LineEntry) (at : LinePlace) → p ≡ shape.precision → w ≡ shape.width
    → IsStore shape es → IsAt shape at (lines_or (no_lines p w) es at)
is_there shape p w es at p_is w_is kept =
    elim (lookup (is_at (place_cmp at)) es) as (λ (o : Option PictureLines). IfSome o (λ L. IsLineEntry shape (at, L))
    → IsAt shape at (unwrap_or o (no_lines p w))) [
      | None ↦ λ k. record {
        precision = p_is;
        width = w_is;
        marks_held = λ x s e. not_in_empty (mark_cmp S) (x, s) e;
        small = λ x s e. not_in_empty (mark_cmp S) (x, s) e;
        fitting = λ x e. not_in_empty S x e;
      }
      | Some L ↦ λ k. record {
        precision = k.precision;
        width = k.width;
        marks_held = k.marks_held;
        small = k.small;
        fitting = λ x e. any_all (λ y. reading_fault shape at.component at.line y ≡ None) x (set.items L.lines) k.entry.fitting
            (sym (contains-items L.lines x) ∙ e);
      }
    ] (lookup_from_each (IsLineEntry shape) es at kept.each)

-- ---- what the partial picture that is seen holds

-- sources of two items that have the same marks
same_sources : {K J : Type 0} (R : K → K → Ordering) (Q : J → J → Ordering) (ms : set.OrderedSet (mark_cmp R))
    (ns : set.OrderedSet (mark_cmp Q)) (k : K) (j : J)
    → ((s : ℕ) → set.contains ms (k, s) ≡ set.contains ns (j, s)) → sources_of R ms k ≡ sources_of Q ns j
same_sources R Q ms ns k j h = ap set.items
    (same_set nat_cmp_total exact_unsigned _ _ (λ s. contains-sources_of R ms k s ∙ h s ∙ sym (contains-sources_of Q ns j s)))

module _ (p w : ℕ) (shape : PictureShape) (es : List LineEntry) (kept : IsStore shape es) where
  abbrev seen : PartialPicture
  seen = partial_of shape (map kept_entry es)

  -- the lines at a place
  abbrev there : LinePlace → PictureLines
  there at = lines_or (no_lines p w) es at

  keys : (es : List LineEntry) → map (λ (e : Entry). e.0) (map kept_entry es) ≡ map (λ (e : LineEntry). e.0) es
  keys [] = refl
  keys (e ∷ es) = ap (λ t. e.0 ∷ t) (keys es)

  sorted_kept : IsStrictlySortedBy place_cmp (map (λ (e : Entry). e.0) (map kept_entry es))
  sorted_kept = subst (IsStrictlySortedBy place_cmp) (sym (keys es)) kept.sorted

  -- each mark of the lines at a place is of one of these lines
  held_marks : (at : LinePlace) → AreLineMarksHeld (there at)
  held_marks at =
      elim (lookup (is_at (place_cmp at)) es) as (λ (o : Option PictureLines). IfSome o (λ L. IsLineEntry shape (at, L))
      → AreLineMarksHeld (unwrap_or o (no_lines p w))) [
        | None ↦ λ k. λ x s e. not_in_empty (mark_cmp S) (x, s) e
        | Some L ↦ λ k. k.marks_held
      ] (lookup_from_each (IsLineEntry shape) es at kept.each)

  -- each source at a place has 32 bits
  small_marks : (at : LinePlace) (x : List ℕ) (s : ℕ) → set.contains (there at).marks (x, s) ≡ true → s < 2 ^ 32
  small_marks at =
      elim (lookup (is_at (place_cmp at)) es) as (λ (o : Option PictureLines). IfSome o (λ L. IsLineEntry shape (at, L))
      → (x : List ℕ) (s : ℕ) → set.contains (unwrap_or o (no_lines p w)).marks (x, s) ≡ true → s < 2 ^ 32) [
        | None ↦ λ k. λ x s e. not_in_empty (mark_cmp S) (x, s) e
        | Some L ↦ λ k. k.small
      ] (lookup_from_each (IsLineEntry shape) es at kept.each)

  -- a partial picture that is seen has a reading exactly where the lines at its place have it
  pub reading_there : (r : Reading) → set.contains seen.readings r ≡ set.contains (there (place_of r)).lines r.samples
  reading_there r =
      holds_reading shape (map kept_entry es) r
      ∙ has-entries (map kept_entry es) r (λ _. true) sorted_kept
      ∙ ap (has_item S r.samples (λ _. true)) (kept_there p w es (place_of r))
      ∙ sym (any_items S r.samples (kept_lines (there (place_of r))))
      ∙ ap (list_any (eq_by_cmp S r.samples)) (named (line_sources (there (place_of r))) (set.items (there (place_of r)).lines))
      ∙ sym (contains-items (there (place_of r)).lines r.samples)

  -- a partial picture that is seen has a mark exactly where the lines at its place have it
  pub mark_there : (r : Reading) (s : ℕ) → set.contains seen.marks (r, s) ≡ set.contains (there (place_of r)).marks (r.samples, s)
  mark_there r s =
      let L = there (place_of r) in
      holds_mark shape (map kept_entry es) r s
      ∙ has-entries (map kept_entry es) r (list_any (eq_by_cmp nat_cmp s)) sorted_kept
      ∙ ap (has_mark S r.samples s) (kept_there p w es (place_of r))
      ∙ has_given S lines_total lines_exact L.marks r.samples s (set.items L.lines)
      ∙ ap (λ b. b && set.contains L.marks (r.samples, s)) (sym (contains-items L.lines r.samples))
      ∙ implied (set.contains L.lines r.samples) (set.contains L.marks (r.samples, s)) (held_marks (place_of r) r.samples s)

  module _ (q : PartialPicture) (is : seen ≡ q) where
    readings_is : set.from_list (readings_of_entries (map bare (map kept_entry es))) ≡ q.readings
    readings_is = readings_are shape (map kept_entry es) ∙ ap (λ (z : PartialPicture). z.readings) is

    shape_is : shape ≡ q.shape
    shape_is = ap (λ (z : PartialPicture). z.shape) is

    pub holds_there : (c l : ℕ) (x : List ℕ) → holds q c l x ≡ set.contains (there (place c l)).lines x
    holds_there c l x = ap (λ (z : PartialPicture). holds z c l x) (sym is) ∙ reading_there (reading_of c l x)

    pub readings_at_there : (c l : ℕ) → readings_at q c l ≡ set.items (there (place c l)).lines
    readings_at_there c l =
        readings_kept shape (map bare (map kept_entry es)) q c l (are_entries shape es kept) readings_is ∙ samples_there p w es (place c l)

    pub sources_at_there : (c l : ℕ) (x : List ℕ) → sources_at q c l x ≡ line_sources (there (place c l)) x
    sources_at_there c l x =
        same_sources reading_cmp S q.marks (there (place c l)).marks (reading_of c l x) x
        (λ s. ap (λ (z : PartialPicture). set.contains z.marks (reading_of c l x, s)) (sym is) ∙ mark_there (reading_of c l x) s)

    pub fitting : IsFitting q
    fitting c l x h =
        let ae = are_entries shape es kept in
        let bs = map bare (map kept_entry es) in
        subst (λ (z : PictureShape). reading_fault z c l x ≡ None) shape_is
        (fits_kept shape bs c l x ae (sym (holds_kept shape bs q c l x ae readings_is) ∙ h))

    pub countable : IsCountable q
    countable c l =
        let ae = are_entries shape es kept in
        let bs = map bare (map kept_entry es) in
        subst (λ (xs : List (List ℕ)). length xs < 2 ^ 64) (sym (readings_kept shape bs q c l ae readings_is))
        (countable_at shape bs (place c l) ae)

    pub marks_held : AreMarksHeld q
    marks_held r s h =
        ap (λ (z : PartialPicture). set.contains z.readings r) (sym is) ∙ reading_there r
        ∙ held_marks (place_of r) r.samples s (sym (mark_there r s) ∙ ap (λ (z : PartialPicture). set.contains z.marks (r, s)) is ∙ h)

    pub sources_small : AreSourcesSmall q
    sources_small r s h = small_marks (place_of r) r.samples s
        (sym (mark_there r s) ∙ ap (λ (z : PartialPicture). set.contains z.marks (r, s)) is ∙ h)

    pub entries_there : map kept_entry es ≡ entries q
    entries_there = sym (store_entries shape es kept) ∙ ap entries is

-- what a partial picture has at a place, by the store that it is seen as
module _ {shape : PictureShape} {store : StoredLines} (is : IsStoreOf shape store) {q : PartialPicture}
    (seen_is : partial_of shape (map kept_entry store.entries) ≡ q) (at : LinePlace) where
  pub holds_stored : (x : List ℕ) → holds q at.component at.line x ≡ holds_line store at x
  holds_stored x = holds_there store.precision store.width shape store.entries is.kept q seen_is at.component at.line x

  pub readings_stored : readings_at q at.component at.line ≡ set.items (stored_at store at).lines
  readings_stored = readings_at_there store.precision store.width shape store.entries is.kept q seen_is at.component at.line

  -- a reading that is there is one of the store's
  pub below_stored : (i : ℕ) → i < length (readings_at q at.component at.line) → i < length (set.items (stored_at store at).lines)
  below_stored i lt = subst (λ (xs : List (List ℕ)). i < length xs) readings_stored lt

  -- where a reading is there, the store has one
  pub some_stored : (i : ℕ) → i < length (readings_at q at.component at.line) → 0 < length (set.items (stored_at store at).lines)
  some_stored i lt = let below = below_stored i lt in omega (arith, below)

  pub sources_stored : (x : List ℕ) → sources_at q at.component at.line x ≡ line_sources (stored_at store at) x
  sources_stored x = sources_at_there store.precision store.width shape store.entries is.kept q seen_is at.component at.line x
