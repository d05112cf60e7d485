-- The readings of a line are what is kept at its place, in order.
use Rattle.std.proofs.Common.{◌≡◌, ℕ, Bool, true, false, cond, ◌&&◌, List, [], ◌∷◌, ◌++◌, map, Some, refl, ap, sym, subst, ◌∙◌}
use Rattle.std.specs.Prelude.{filter, unwrap_or, ◌==◌}
use Rattle.std.specs.declared.cmp.Ordering.{Ordering}
use Rattle.std.specs.declared.cmp.Ordering.TheVariants.{Less, Equal, Greater}
use Rattle.std.specs.Ordering.{nat_cmp, is_eq, ordering_then}
use Rattle.std.specs.Cmp.{unsigned_tied, nat_eq_equiv}
use Rattle.std.specs.List.{AllByRecursion}
use Rattle.std.specs.List.Sorted.{IsStrictlySortedBy}
use Rattle.std.specs.BTreeMap.{is_at}
use Rattle.std.specs.Map.{lookup}
use Rattle.std.proofs.lemmas.List.Concat.{flat_map-cons}
use Rattle.std.proofs.lemmas.List.{append-nil}
use Rattle.std.proofs.lemmas.List.Elements.{filter-append}
use Rattle.std.proofs.lemmas.List.{map-append}
use Rattle.std.proofs.lemmas.Cmp.{tied_itself, nat_cmp_total}
use Rattle.jls_values.specs.OrderedSet.{OrderedSet, from_list, items}
use Rattle.jls_values.specs.Shape.{PictureShape}
use Rattle.jls_partial.specs.declared.line_place.LinePlace.{LinePlace}
use Rattle.jls_partial.specs.Entries.{at_place, readings_of_entries, BareEntry}
use Rattle.jls_partial.specs.Held.{IsEntry, AreEntries}
use Rattle.jls_partial.specs.Partial.{PartialPicture, readings_at}
use Rattle.jls_partial.specs.LinePlace.{place_cmp, place_of, place}
use Rattle.jls_partial.specs.Reading.{Reading, reading_cmp}
use Rattle.jls_partial.specs.ReadingOrder.{reading_total, same_place}
use Rattle.jls_partial.proofs.Entries.{S, samples_at}
use Rattle.jls_values.specs.OrderedSetLaws.{items-from_list, sorted-append}
use Rattle.jls_values.proofs.Lists.{all_append}

-- the readings at one place rise as their samples do
reading_below_block : (p : LinePlace) (x : List ℕ) (xs : List (List ℕ)) → AllByRecursion (λ y. S x y ≡ Less) xs
    → AllByRecursion (λ r. reading_cmp (at_place p x) r ≡ Less) (map (at_place p) xs)
reading_below_block p x [] h = tt
reading_below_block p x (y ∷ xs) h =
    (rw (tied_itself nat_cmp_total p.component, tied_itself nat_cmp_total p.line) h.0, reading_below_block p x xs h.1)

sorted-at_place : (p : LinePlace) (xs : List (List ℕ)) → IsStrictlySortedBy S xs → IsStrictlySortedBy reading_cmp (map (at_place p) xs)
unfolding IsStrictlySortedBy
sorted-at_place p [] h = tt
sorted-at_place p (x ∷ xs) h = (reading_below_block p x xs h.0, sorted-at_place p xs h.1)

-- where the first parts are less, so are the whole orders
first_less : (r s t : Ordering) → ordering_then r s ≡ Less → ordering_then r (ordering_then s t) ≡ Less
first_less Less s t h = refl
first_less Equal Less t h = refl
first_less Equal Equal t h = absurd cc
first_less Equal Greater t h = absurd cc
first_less Greater s t h = absurd cc

-- a reading at an earlier place is below all readings at a later one
below-at_place : (r : Reading) (p : LinePlace) (xs : List (List ℕ)) → place_cmp (place_of r) p ≡ Less
    → AllByRecursion (λ s. reading_cmp r s ≡ Less) (map (at_place p) xs)
below-at_place r p [] h = tt
below-at_place r p (x ∷ xs) h =
    (first_less (nat_cmp r.component p.component) (nat_cmp r.line p.line) (S r.samples x) h, below-at_place r p xs h)

-- a reading at a place before those of all entries is below all their readings
below-entries : (r : Reading) (es : List BareEntry) → AllByRecursion (λ q. place_cmp (place_of r) q ≡ Less) (map (λ e. e.0) es)
    → AllByRecursion (λ s. reading_cmp r s ≡ Less) (readings_of_entries es)
below-entries r [] h = tt
below-entries r (e ∷ es) h =
    subst (AllByRecursion (λ s. reading_cmp r s ≡ Less)) (sym (flat_map-cons (λ (e : BareEntry). map (at_place e.0) e.1) e es))
    (all_append (λ s. reading_cmp r s ≡ Less) (map (at_place e.0) e.1) (readings_of_entries es) (below-at_place r e.0 e.1 h.0)
    (below-entries r es h.1))

-- the readings of an earlier entry are below those of all later ones
at_place_below_entries : (p : LinePlace) (xs : List (List ℕ)) (es : List BareEntry)
    → AllByRecursion (λ q. place_cmp p q ≡ Less) (map (λ e. e.0) es)
    → AllByRecursion (λ r. AllByRecursion (λ s. reading_cmp r s ≡ Less) (readings_of_entries es)) (map (at_place p) xs)
at_place_below_entries p [] es h = tt
at_place_below_entries p (x ∷ xs) es h = (below-entries (at_place p x) es h, at_place_below_entries p xs es h)

-- the readings of entries that rise, rise
pub sorted-entries : (shape : PictureShape) (es : List BareEntry) → IsStrictlySortedBy place_cmp (map (λ e. e.0) es)
    → AllByRecursion (IsEntry shape) es → IsStrictlySortedBy reading_cmp (readings_of_entries es)
unfolding IsStrictlySortedBy
sorted-entries shape [] h k = tt
sorted-entries shape (e ∷ es) h k =
    subst (IsStrictlySortedBy reading_cmp) (sym (flat_map-cons (λ (e : BareEntry). map (at_place e.0) e.1) e es))
    (sorted-append reading_total (map (at_place e.0) e.1) (readings_of_entries es) (sorted-at_place e.0 e.1 k.0.sorted)
    (sorted-entries shape es h.1 k.1) (at_place_below_entries e.0 e.1 es h.0))

-- ---- the readings of one line

-- whether a reading is of this line
abbrev pub is_there : ℕ → ℕ → Reading → Bool
is_there c l r = r.component == c && r.line == l

-- a place is of this component and line exactly where it compares as equal with theirs
pub eq_there : (c l : ℕ) (p : LinePlace) → (p.component == c && p.line == l) ≡ is_at (place_cmp (place c l)) p
eq_there c l p =
    (λ i. (nat_eq_equiv.symm p.component c ∙ sym (unsigned_tied c p.component)) i
    && (nat_eq_equiv.symm p.line l ∙ sym (unsigned_tied l p.line)) i)
    ∙ both (nat_cmp c p.component) (nat_cmp l p.line)
  where
    both : (r s : Ordering) → (is_eq r && is_eq s) ≡ is_eq (ordering_then r s)
    both Less s = refl
    both Equal s = refl
    both Greater s = refl

there_true : (c l : ℕ) (p : LinePlace) (xs : List (List ℕ)) → (p.component == c && p.line == l) ≡ true
    → map (λ r. r.samples) (filter (is_there c l) (map (at_place p) xs)) ≡ xs
there_true c l p [] h = refl
there_true c l p (x ∷ xs) h = rw h (ap (λ (t : List (List ℕ)). x ∷ t) (there_true c l p xs h))

there_false : (c l : ℕ) (p : LinePlace) (xs : List (List ℕ)) → (p.component == c && p.line == l) ≡ false
    → filter (is_there c l) (map (at_place p) xs) ≡ []
there_false c l p [] h = refl
there_false c l p (x ∷ xs) h = rw h (there_false c l p xs h)

-- no reading of a later place is there
nothing_there : (c l : ℕ) (es : List BareEntry) → AllByRecursion (λ q. place_cmp (place c l) q ≡ Less) (map (λ e. e.0) es)
    → filter (is_there c l) (readings_of_entries es) ≡ []
nothing_there c l [] h = refl
nothing_there c l (e ∷ es) h =
    ap (filter (is_there c l)) (flat_map-cons (λ (e : BareEntry). map (at_place e.0) e.1) e es)
    ∙ filter-append (is_there c l) (map (at_place e.0) e.1) (readings_of_entries es)
    ∙ (λ i. there_false c l e.0 e.1 (eq_there c l e.0 ∙ ap is_eq h.0) i ++ nothing_there c l es h.1 i)

-- the readings at a place, out of those of all entries, are the samples of the entry of that place
pub kept_there : (c l : ℕ) (es : List BareEntry) → IsStrictlySortedBy place_cmp (map (λ e. e.0) es)
    → map (λ r. r.samples) (filter (is_there c l) (readings_of_entries es)) ≡ samples_at es (place c l)
unfolding IsStrictlySortedBy
kept_there c l [] h = refl
kept_there c l (e ∷ es) h =
    ap (λ (t : List Reading). map (λ r. r.samples) t)
    (ap (filter (is_there c l)) (flat_map-cons (λ (e : BareEntry). map (at_place e.0) e.1) e es)
    ∙ filter-append (is_there c l) (map (at_place e.0) e.1) (readings_of_entries es))
    ∙ map-append (λ (r : Reading). r.samples) (filter (is_there c l) (map (at_place e.0) e.1))
    (filter (is_there c l) (readings_of_entries es))
    ∙ elim (is_at (place_cmp (place c l)) e.0) as (λ b. is_at (place_cmp (place c l)) e.0 ≡ b →
    (map (λ r. r.samples) (filter (is_there c l) (map (at_place e.0) e.1))
    ++ map (λ r. r.samples) (filter (is_there c l) (readings_of_entries es)))
    ≡ unwrap_or (cond b (Some e.1) (lookup (is_at (place_cmp (place c l))) es)) []) [
      | true ↦ λ t.
          let later = subst (λ (z : LinePlace). AllByRecursion (λ q. place_cmp z q ≡ Less) (map (λ e. e.0) es))
          (sym (same_place (place c l) e.0 t)) h.0 in
          (λ i. there_true c l e.0 e.1 (eq_there c l e.0 ∙ t) i ++ map (λ r. r.samples) (nothing_there c l es later i)) ∙ append-nil e.1
      | false ↦ λ f.
          (λ i. map (λ r. r.samples) (there_false c l e.0 e.1 (eq_there c l e.0 ∙ f) i) ++ kept_there c l es h.1 i)
    ] refl

-- the readings of a line of the partial that is seen are what is kept at its place
pub readings_kept : (shape : PictureShape) (es : List BareEntry) (p : PartialPicture) (c l : ℕ) → AreEntries shape es
    → from_list (readings_of_entries es) ≡ p.readings → readings_at p c l ≡ samples_at es (place c l)
readings_kept shape es p c l kept is =
    ap (λ (s : OrderedSet reading_cmp). map (λ r. r.samples) (filter (is_there c l) (items s))) (sym is)
    ∙ ap (λ (rs : List Reading). map (λ r. r.samples) (filter (is_there c l) rs))
    (items-from_list reading_total (readings_of_entries es) (sorted-entries shape es kept.sorted kept.each))
    ∙ kept_there c l es kept.sorted
