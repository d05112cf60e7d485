-- Entries with sources, and the partial picture that they make.
use Rattle.std.proofs.Common.{◌≡◌, ℕ, Bool, true, false, cond, ◌&&◌, ◌||◌, List, [], ◌∷◌, ◌++◌, map, Option, Some, refl, ap, sym, subst}
use Rattle.std.proofs.Common.{◌∙◌}
use Rattle.std.specs.Prelude.{unwrap_or}
use Rattle.std.specs.BTreeMap.{is_at}
use Rattle.std.specs.List.{list_any, AllByRecursion}
use Rattle.std.specs.List.Sorted.{IsStrictlySortedBy}
use Rattle.std.specs.Map.{lookup}
use Rattle.std.specs.Ordering.{nat_cmp, eq_by_cmp}
use Rattle.std.proofs.lemmas.List.{map-append}
use Rattle.std.proofs.lemmas.List.Concat.{flat_map-cons}
use Rattle.std.proofs.lemmas.List.Folds.{list_any-append}
use Rattle.jls_values.specs.OrderedSet as set
use Rattle.jls_values.specs.OrderedSetLaws.{same_set, contains-insert_all, contains-from_list, contains-empty, or_false}
use Rattle.jls_values.specs.Shape.{PictureShape}
use Rattle.jls_values.proofs.Tests.{implied}
use Rattle.jls_partial.specs.declared.line_place.LinePlace.{LinePlace}
use Rattle.jls_partial.specs.Entries.{Entry, BareEntry, bare, at_place, kept_at_place, readings_of_entries, kept_readings, partial_of}
use Rattle.jls_partial.specs.Held.{AreEntries}
use Rattle.jls_partial.specs.Marks.{mark_cmp, marks_of, sources_of}
use Rattle.jls_partial.specs.Packed.{Kept}
use Rattle.jls_partial.specs.Partial.{PartialPicture, sources_at, AreMarksHeld}
use Rattle.jls_partial.specs.LinePlace.{place_cmp, place_of}
use Rattle.jls_partial.specs.Reading.{Reading, reading_cmp}
use Rattle.jls_partial.specs.ReadingOrder.{reading_total, reading_exact, marks_total, marks_exact, eq_reading}
use Rattle.jls_partial.specs.Text.{bare_entries, with_own_sources, entries}
use Rattle.jls_partial.proofs.BareEntries.{bare_again, set_again}
use Rattle.jls_partial.proofs.Entries.{S, none_kept}
use Rattle.jls_partial.proofs.MarkSets.{has_item, has_mark, any_items, any_marks, each_has_own, has_given, sources_again}
use Rattle.jls_partial.proofs.ReadBack.{sorted-entries}

-- ---- the readings alone

firsts : (at : LinePlace) (ks : List Kept)
    → map (λ (k : Reading × List ℕ). k.0) (map (kept_at_place at) ks) ≡ map (at_place at) (map (λ (k : Kept). k.0) ks)
firsts at [] = refl
firsts at (k ∷ ks) = ap (λ t. at_place at k.0 ∷ t) (firsts at ks)

-- the readings of entries with sources are those of the entries without them
pub bare_readings : (es : List Entry) → map (λ k. k.0) (kept_readings es) ≡ readings_of_entries (map bare es)
bare_readings [] = refl
bare_readings (e ∷ es) =
    ap (map (λ (k : Reading × List ℕ). k.0)) (flat_map-cons (λ (e : Entry). map (kept_at_place e.0) e.1) e es)
    ∙ map-append (λ (k : Reading × List ℕ). k.0) (map (kept_at_place e.0) e.1) (kept_readings es)
    ∙ (λ i. firsts e.0 e.1 i ++ bare_readings es i)
    ∙ sym (flat_map-cons (λ (e : BareEntry). map (at_place e.0) e.1) (bare e) (map bare es))

-- to insert all into the empty set is to make the set of all
set_of_all : (rs : List Reading) → set.insert_all (set.empty {R = reading_cmp}) rs ≡ set.from_list rs
set_of_all rs = same_set reading_total reading_exact (set.insert_all set.empty rs) (set.from_list rs) (λ q.
    contains-insert_all reading_total set.empty rs q ∙ ap (λ b. b || list_any (eq_by_cmp reading_cmp q) rs) (contains-empty reading_cmp q)
    ∙ sym (contains-from_list reading_total rs q))

pub readings_are : (shape : PictureShape) (es : List Entry)
    → set.from_list (readings_of_entries (map bare es)) ≡ (partial_of shape es).readings
readings_are shape es = sym (ap (set.insert_all (set.empty {R = reading_cmp})) (bare_readings es)
    ∙ set_of_all (readings_of_entries (map bare es)))

-- ---- what the partial picture of entries holds

-- the partial picture that entries make has a reading exactly where they have it
pub holds_reading : (shape : PictureShape) (es : List Entry) (r : Reading)
    → set.contains (partial_of shape es).readings r ≡ has_item reading_cmp r (λ _. true) (kept_readings es)
holds_reading shape es r =
    contains-insert_all reading_total set.empty (map (λ k. k.0) (kept_readings es)) r
    ∙ ap (λ b. b || list_any (eq_by_cmp reading_cmp r) (map (λ k. k.0) (kept_readings es))) (contains-empty reading_cmp r)
    ∙ any_items reading_cmp r (kept_readings es)

-- the partial picture that entries make has a mark exactly where they have it
pub holds_mark : (shape : PictureShape) (es : List Entry) (r : Reading) (s : ℕ)
    → set.contains (partial_of shape es).marks (r, s) ≡ has_mark reading_cmp r s (kept_readings es)
holds_mark shape es r s =
    contains-insert_all marks_total set.empty (marks_of (kept_readings es)) (r, s)
    ∙ ap (λ b. b || list_any (eq_by_cmp (mark_cmp reading_cmp) (r, s)) (marks_of (kept_readings es)))
    (contains-empty (mark_cmp reading_cmp) (r, s))
    ∙ any_marks reading_cmp r s (kept_readings es)

-- what is kept at a place
abbrev pub kept_at : List Entry → LinePlace → List Kept
kept_at es at = unwrap_or (lookup (is_at (place_cmp at)) es) []

-- readings at one place have an item where the place is that of the item, and what is kept there has it
has-at_place : (r : Reading) (g : List ℕ → Bool) (p : LinePlace) (ks : List Kept)
    → has_item reading_cmp r g (map (kept_at_place p) ks) ≡ (eq_by_cmp place_cmp (place_of r) p && has_item S r.samples g ks)
has-at_place r g p [] = none (eq_by_cmp place_cmp (place_of r) p)
  where
    none : (b : Bool) → false ≡ (b && false)
    none true = refl
    none false = refl
has-at_place r g p (k ∷ ks) =
    (λ i. (eq_reading r p k.0 i && g k.1) || has-at_place r g p ks i)
    ∙ both (eq_by_cmp place_cmp (place_of r) p) (eq_by_cmp S r.samples k.0) (g k.1) (has_item S r.samples g ks)
  where
    both : (b c e d : Bool) → (((b && c) && e) || (b && d)) ≡ (b && ((c && e) || d))
    both true c e d = refl
    both false c e d = refl

-- a reading, or a mark, is in the list of all exactly if it is kept at its place
pub has-entries : (es : List Entry) (r : Reading) (g : List ℕ → Bool) → IsStrictlySortedBy place_cmp (map (λ e. e.0) es)
    → has_item reading_cmp r g (kept_readings es) ≡ has_item S r.samples g (kept_at es (place_of r))
unfolding IsStrictlySortedBy
has-entries [] r g h = refl
has-entries (e ∷ es) r g h =
    let test = λ (k : Reading × List ℕ). eq_by_cmp reading_cmp r k.0 && g k.1 in
    ap (list_any test) (flat_map-cons (λ (e : Entry). map (kept_at_place e.0) e.1) e es)
    ∙ list_any-append test (map (kept_at_place e.0) e.1) (kept_readings es)
    ∙ (λ i. has-at_place r g e.0 e.1 i || has-entries es r g h.1 i)
    ∙ elim (eq_by_cmp place_cmp (place_of r) e.0) as (λ b. eq_by_cmp place_cmp (place_of r) e.0 ≡ b →
    ((b && has_item S r.samples g e.1) || has_item S r.samples g (kept_at es (place_of r)))
    ≡ has_item S r.samples g (unwrap_or (cond b (Some e.1) (lookup (is_at (place_cmp (place_of r))) es)) [])) [
      | true ↦ λ t. ap (λ (o : Option (List Kept)). has_item S r.samples g e.1 || has_item S r.samples g (unwrap_or o []))
          (none_kept (place_of r) e.0 es t h.0) ∙ or_false (has_item S r.samples g e.1)
      | false ↦ λ t. refl
    ] refl

-- ---- entries in order are the entries of their partial picture

-- the sources of each reading rise
abbrev pub SourcesRise : List Entry → Type 0
SourcesRise es = AllByRecursion (λ e. AllByRecursion (λ k. IsStrictlySortedBy nat_cmp k.1) e.1) es

all_of : {X : Type 0} (P : X → Type 0) (xs ys : List X) → AllByRecursion P (xs ++ ys) → AllByRecursion P xs × AllByRecursion P ys
all_of P [] ys h = (tt, h)
all_of P (x ∷ xs) ys h = let r = all_of P xs ys h.1 in ((h.0, r.0), r.1)

module _ (P : Reading × List ℕ → Type 0) where
  all_there : (at : LinePlace) (ks : List Kept) → AllByRecursion P (map (kept_at_place at) ks)
      → AllByRecursion (λ k. P (kept_at_place at k)) ks
  all_there at [] h = tt
  all_there at (k ∷ ks) h = (h.0, all_there at ks h.1)

  -- what holds of all readings holds of those of each entry
  by_entry : (es : List Entry) → AllByRecursion P (kept_readings es)
      → AllByRecursion (λ e. AllByRecursion (λ k. P (kept_at_place e.0 k)) e.1) es
  by_entry [] h = tt
  by_entry (e ∷ es) h =
      let parts = all_of P (map (kept_at_place e.0) e.1) (kept_readings es)
      (subst (AllByRecursion P) (flat_map-cons (λ (e : Entry). map (kept_at_place e.0) e.1) e es) h) in
      (all_there e.0 e.1 parts.0, by_entry es parts.1)

kept_again : (f : List ℕ → List ℕ) (ks : List Kept) → AllByRecursion (λ k. f k.0 ≡ k.1) ks
    → map (λ x. (x, f x)) (map (λ (k : Kept). k.0) ks) ≡ ks
kept_again f [] h = refl
kept_again f (k ∷ ks) h = λ i. (k.0, h.0 i) ∷ kept_again f ks h.1 i

-- readings at a place whose sources are those of the marks get them again
own_again : (p : PartialPicture) (at : LinePlace) (ks : List Kept) → AllByRecursion (λ k. IsStrictlySortedBy nat_cmp k.1) ks
    → AllByRecursion (λ k. (s : ℕ) → set.contains p.marks (at_place at k.0, s) ≡ list_any (eq_by_cmp nat_cmp s) k.1) ks
    → AllByRecursion (λ k. sources_at p at.component at.line k.0 ≡ k.1) ks
own_again p at [] h own = tt
own_again p at (k ∷ ks) h own = (sources_again reading_cmp p.marks (at_place at k.0) k.1 h.0 own.0, own_again p at ks h.1 own.1)

-- entries whose sources are those of the marks get them again
each_again : (p : PartialPicture) (es : List Entry) → SourcesRise es
    → AllByRecursion (λ e. AllByRecursion (λ k. (s : ℕ) → set.contains p.marks (at_place e.0 k.0, s) ≡ list_any (eq_by_cmp nat_cmp s) k.1)
    e.1) es
    → map (with_own_sources p) (map bare es) ≡ es
each_again p [] h own = refl
each_again p (e ∷ es) h own =
    λ i. (e.0, kept_again (sources_at p e.0.component e.0.line) e.1 (own_again p e.0 e.1 h.0 own.0) i) ∷ each_again p es h.1 own.1 i

-- the entries of the partial picture that entries make are these entries
pub entries_again : (shape : PictureShape) (es : List Entry) → AreEntries shape (map bare es) → SourcesRise es
    → entries (partial_of shape es) ≡ es
entries_again shape es kept rise =
    let p = partial_of shape es in
    let sorted = subst (IsStrictlySortedBy reading_cmp) (sym (bare_readings es))
    (sorted-entries shape (map bare es) kept.sorted kept.each) in
    let own = moved (kept_readings es) (each_has_own reading_cmp reading_total (kept_readings es) sorted) in
    ap (map (with_own_sources p)) (bare_again shape (map bare es) p kept (readings_are shape es))
    ∙ each_again p es rise (by_entry (λ k. (s : ℕ) → set.contains p.marks (k.0, s) ≡ list_any (eq_by_cmp nat_cmp s) k.1) es own)
  where
    moved : (ks : List (Reading × List ℕ))
        → AllByRecursion (λ k. (s : ℕ) → has_mark reading_cmp k.0 s (kept_readings es) ≡ list_any (eq_by_cmp nat_cmp s) k.1) ks
        → AllByRecursion (λ k. (s : ℕ) → set.contains (partial_of shape es).marks (k.0, s) ≡ list_any (eq_by_cmp nat_cmp s) k.1) ks
    moved [] h = tt
    moved (k ∷ ks) h = (λ s. holds_mark shape es k.0 s ∙ h.0 s, moved ks h.1)

-- ---- the entries of a partial picture make it again

-- entries that get their sources are the same without them
bare_of_own : (p : PartialPicture) (es : List BareEntry) → map bare (map (with_own_sources p) es) ≡ es
bare_of_own p [] = refl
bare_of_own p (e ∷ es) = λ i. (e.0, names e.1 i) ∷ bare_of_own p es i
  where
    names : (xs : List (List ℕ)) → map (λ (k : Kept). k.0) (map (λ x. (x, sources_at p e.0.component e.0.line x)) xs) ≡ xs
    names [] = refl
    names (x ∷ xs) = ap (λ t. x ∷ t) (names xs)

pub bare_entries_are : (p : PartialPicture) → map bare (entries p) ≡ bare_entries p
bare_entries_are p = bare_of_own p (bare_entries p)

-- entries that get the sources of a partial picture have its readings, each with its own sources
own_readings : (p : PartialPicture) (es : List BareEntry)
    → kept_readings (map (with_own_sources p) es) ≡ map (λ r. (r, sources_of reading_cmp p.marks r)) (readings_of_entries es)
own_readings p [] = refl
own_readings p (e ∷ es) =
    flat_map-cons (λ (e : Entry). map (kept_at_place e.0) e.1) (with_own_sources p e) (map (with_own_sources p) es)
    ∙ (λ i. there e.1 i ++ own_readings p es i)
    ∙ sym (map-append (λ (r : Reading). (r, sources_of reading_cmp p.marks r)) (map (at_place e.0) e.1) (readings_of_entries es))
    ∙ ap (map (λ (r : Reading). (r, sources_of reading_cmp p.marks r)))
    (sym (flat_map-cons (λ (e : BareEntry). map (at_place e.0) e.1) e es))
  where
    there : (xs : List (List ℕ))
        → map (kept_at_place e.0) (map (λ x. (x, sources_at p e.0.component e.0.line x)) xs)
        ≡ map (λ r. (r, sources_of reading_cmp p.marks r)) (map (at_place e.0) xs)
    there [] = refl
    there (x ∷ xs) = ap (λ t. (at_place e.0 x, sources_of reading_cmp p.marks (at_place e.0 x)) ∷ t) (there xs)

-- the partial picture that the entries of one make is that picture
pub partial_again : (p : PartialPicture) → AreMarksHeld p → partial_of p.shape (entries p) ≡ p
partial_again p held =
    let readings = sym (readings_are p.shape (entries p))
    ∙ ap (λ es. set.from_list {R = reading_cmp} (readings_of_entries es)) (bare_entries_are p) ∙ set_again p in
    λ i. record {
      shape = p.shape;
      readings = readings i;
      marks =
          same_set marks_total marks_exact (partial_of p.shape (entries p)).marks p.marks (λ m. marked m.0 m.1) i;
    }
  where
    is_held : (r : Reading) → list_any (eq_by_cmp reading_cmp r) (readings_of_entries (bare_entries p)) ≡ set.contains p.readings r
    is_held r = sym (contains-from_list reading_total (readings_of_entries (bare_entries p)) r)
        ∙ ap (λ (s : set.OrderedSet reading_cmp). set.contains s r) (set_again p)

    marked : (r : Reading) (s : ℕ) → set.contains (partial_of p.shape (entries p)).marks (r, s) ≡ set.contains p.marks (r, s)
    marked r s =
        holds_mark p.shape (entries p) r s
        ∙ ap (has_mark reading_cmp r s) (own_readings p (bare_entries p))
        ∙ has_given reading_cmp reading_total reading_exact p.marks r s (readings_of_entries (bare_entries p))
        ∙ ap (λ b. b && set.contains p.marks (r, s)) (is_held r)
        ∙ implied (set.contains p.readings r) (set.contains p.marks (r, s)) (held r s)
