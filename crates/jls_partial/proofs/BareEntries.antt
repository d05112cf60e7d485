-- Entries without sources and partial pictures: entries in order are the entries of a partial with their readings, and the
-- entries of a partial hold its readings.
use Rattle.std.proofs.Common.{◌≡◌, ℕ, ◌+◌, ◌*◌, ◌<◌, ◌≤◌, ◌^◌, Bool, true, false, cond, ◌&&◌, ◌||◌, T, List, [], ◌∷◌, length, map, Option}
use Rattle.std.proofs.Common.{Some, None, refl, ap, sym, subst, ◌∙◌, arith}
use Rattle.std.specs.Prelude.{unwrap_or, filter, nat_le, ◌==◌}
use Rattle.std.specs.declared.cmp.Ordering.{Ordering}
use Rattle.std.specs.declared.cmp.Ordering.TheVariants.{Less, Equal, Greater}
use Rattle.std.specs.Ordering.{nat_cmp, is_eq, is_lt, eq_by_cmp, ordering_then, ordering_reverse}
use Rattle.std.specs.Cmp.{IsTotalOrder}
use Rattle.std.specs.BTreeMap.{is_at}
use Rattle.std.specs.FinMap as fin
use Rattle.std.specs.FinMap.Entries as sorted
use Rattle.std.specs.List.{list_any, AllByRecursion}
use Rattle.std.specs.List.Sorted.{IsStrictlySortedBy}
use Rattle.std.specs.Map.{lookup}
use Rattle.std.proofs.lemmas.Bool.{eqb-true, and_parts, or_parts, or_right, or_left, leb-false}
use Rattle.std.proofs.lemmas.Cmp.{tied_itself, nat_cmp_total, ranked}
use Rattle.std.proofs.lemmas.List.Concat.{flat_map-cons}
use Rattle.std.proofs.lemmas.List.{map-append, length-map}
use Rattle.std.proofs.lemmas.List.Folds.{list_any-append}
use Rattle.jls_values.specs.OrderedSet.{OrderedSet, items, from_list}
use Rattle.jls_values.specs.OrderedSetLaws.{or_false, or_itself, contains-items, contains-from_list, same_set, items-from_list}
use Rattle.jls_values.specs.Shape.{PictureShape, IsShape}
use Rattle.jls_partial.specs.declared.line_place.LinePlace.{LinePlace}
use Rattle.jls_partial.specs.Entries.{BareEntry, at_place, readings_of_entries}
use Rattle.jls_partial.specs.Held.{IsEntry, AreEntries}
use Rattle.jls_partial.specs.InsertFaults.{reading_fault}
use Rattle.jls_partial.specs.Partial.{PartialPicture, readings_at}
use Rattle.jls_partial.specs.LinePlace.{place, place_cmp, place_of}
use Rattle.jls_partial.specs.Reading.{Reading, reading_cmp}
use Rattle.jls_partial.specs.ReadingOrder.{place_total, place_exact, reading_total, reading_exact, eq_reading, same_place}
use Rattle.jls_partial.specs.Text.{places_held, bare_entries, IsPartial}
use Rattle.jls_partial.proofs.Entries.{S, samples_at, any-entries}
use Rattle.jls_partial.proofs.ReadBack.{sorted-entries, eq_there, readings_kept, is_there}

-- ---- sets

-- the items of a set rise
both_hold : (a b : Bool) → T (a && b) → T a × T b
both_hold true b h = (tt, h)
both_hold false b h = absurd h

less_from_test : (r : Ordering) → T (is_lt r) → r ≡ Less
less_from_test Less h = refl
less_from_test Equal h = absurd h
less_from_test Greater h = absurd h

-- a key that the test finds below all is below them
below_from_test : {K X : Type 0} (R : K → K → Ordering) (k : K) (es : List (K × X)) → T (sorted.below_all R k es)
    → AllByRecursion (λ y. R k y ≡ Less) (map (λ e. e.0) es)
below_from_test R k [] h = tt
below_from_test R k (e ∷ es) h = let p = both_hold (is_lt (R k e.0)) (sorted.below_all R k es) h in
    (less_from_test (R k e.0) p.0, below_from_test R k es p.1)

-- keys that the test finds rising rise
sorted_from_test : {K X : Type 0} (R : K → K → Ordering) (es : List (K × X)) → T (sorted.is_sorted R es)
    → IsStrictlySortedBy R (map (λ e. e.0) es)
unfolding IsStrictlySortedBy
sorted_from_test R [] h = tt
sorted_from_test R (e ∷ es) h = let p = both_hold (sorted.below_all R e.0 es) (sorted.is_sorted R es) h in
    (below_from_test R e.0 es p.0, sorted_from_test R es p.1)

pub items_rise : {K : Type 0} {R : K → K → Ordering} (s : OrderedSet R) → IsStrictlySortedBy R (items s)
items_rise {R = R} s = sorted_from_test R (fin.entries s) (fin.entries_sorted s)

-- a fact of all that a list contains is a fact of its items
pub all_members : {K : Type 0} {R : K → K → Ordering} (o : IsTotalOrder R) (P : K → Type 0) (ks : List K)
    → ((q : K) → list_any (eq_by_cmp R q) ks ≡ true → P q) → AllByRecursion P ks
all_members o P [] f = tt
all_members {R = R} o P (k ∷ ks) f =
    (f k (or_left _ _ (ap is_eq (tied_itself o k))), all_members o P ks (λ q h. f q (or_right (eq_by_cmp R q k) _ h)))

-- ---- entries in order are the entries of their partial

-- where there is a reading, the place is there
block_places : (t : LinePlace → Bool) (p : LinePlace) (x : List ℕ) (xs : List (List ℕ))
    → list_any t (map place_of (map (at_place p) (x ∷ xs))) ≡ t p
block_places t p x [] = or_false (t p)
block_places t p x (y ∷ ys) = ap (λ b. t p || b) (block_places t p y ys) ∙ or_itself (t p)

some_block : (t : LinePlace → Bool) (p : LinePlace) (xs : List (List ℕ)) → 1 ≤ length xs → list_any t (map place_of (map (at_place p) xs))
    ≡ t p
some_block t p [] h = absurd (omega arith)
some_block t p (x ∷ xs) h = block_places t p x xs

-- a test passes a place of some reading exactly where it passes a place of some entry
same_places : (shape : PictureShape) (t : LinePlace → Bool) (es : List BareEntry) → AllByRecursion (IsEntry shape) es
    → list_any t (map place_of (readings_of_entries es)) ≡ list_any t (map (λ e. e.0) es)
same_places shape t [] h = refl
same_places shape t (e ∷ es) h =
    ap (λ (rs : List Reading). list_any t (map place_of rs)) (flat_map-cons (λ (e : BareEntry). map (at_place e.0) e.1) e es)
    ∙ ap (list_any t) (map-append place_of (map (at_place e.0) e.1) (readings_of_entries es))
    ∙ list_any-append t (map place_of (map (at_place e.0) e.1)) (map place_of (readings_of_entries es))
    ∙ (λ i. some_block t e.0 e.1 h.0.read i || same_places shape t es h.1 i)

-- the places at which a partial picture has readings are those of its entries
pub places_again : (shape : PictureShape) (es : List BareEntry) (p : PartialPicture) → AreEntries shape es
    → from_list (readings_of_entries es) ≡ p.readings → places_held p ≡ map (λ e. e.0) es
places_again shape es p kept is =
    ap (λ (s : OrderedSet reading_cmp). items (from_list {R = place_cmp} (map place_of (items s)))) (sym is)
    ∙ ap (λ (rs : List Reading). items (from_list {R = place_cmp} (map place_of rs)))
    (items-from_list reading_total (readings_of_entries es) (sorted-entries shape es kept.sorted kept.each))
    ∙ ap items (same_set place_total place_exact (from_list (map place_of (readings_of_entries es))) (from_list (map (λ e. e.0) es))
    (λ q. contains-from_list place_total (map place_of (readings_of_entries es)) q ∙ same_places shape (eq_by_cmp place_cmp q) es kept.each
    ∙ sym (contains-from_list place_total (map (λ e. e.0) es) q)))
    ∙ items-from_list place_total (map (λ e. e.0) es) kept.sorted

later : (p q : LinePlace) → place_cmp p q ≡ Less → is_at (place_cmp q) p ≡ false
later p q h = ap is_eq (place_total.antisymm q p ∙ ap ordering_reverse h)

-- what is found after an earlier entry is found
found_after : (e : BareEntry) (es fs : List BareEntry) → AllByRecursion (λ q. place_cmp e.0 q ≡ Less) (map (λ f. f.0) fs)
    → AllByRecursion (λ f. samples_at es f.0 ≡ f.1) fs → AllByRecursion (λ f. samples_at (e ∷ es) f.0 ≡ f.1) fs
found_after e es [] h k = tt
found_after e es (f ∷ fs) h k =
    (ap (λ b. unwrap_or (cond b (Some e.1) (lookup (is_at (place_cmp f.0)) es)) []) (later e.0 f.0 h.0) ∙ k.0, found_after e es fs h.1 k.1)

-- at the place of each entry, its samples are found
all_found : (es : List BareEntry) → IsStrictlySortedBy place_cmp (map (λ e. e.0) es) → AllByRecursion (λ e. samples_at es e.0 ≡ e.1) es
unfolding IsStrictlySortedBy
all_found [] h = tt
all_found (e ∷ es) h = (
  ap (λ b. unwrap_or (cond b (Some e.1) (lookup (is_at (place_cmp e.0)) es)) []) (ap is_eq (tied_itself place_total e.0)),
  found_after e es es h.0 (all_found es h.1),
)

made_again : (f : LinePlace → List (List ℕ)) (es : List BareEntry) → AllByRecursion (λ e. f e.0 ≡ e.1) es
    → map (λ at. (at, f at)) (map (λ e. e.0) es) ≡ es
made_again f [] h = refl
made_again f (e ∷ es) h = λ i. (e.0, h.0 i) ∷ made_again f es h.1 i

all_same : (f g : LinePlace → List (List ℕ)) (es : List BareEntry) → ((at : LinePlace) → f at ≡ g at) → AllByRecursion (λ e. g e.0 ≡ e.1) es
    → AllByRecursion (λ e. f e.0 ≡ e.1) es
all_same f g [] e h = tt
all_same f g (x ∷ es) e h = (e x.0 ∙ h.0, all_same f g es e h.1)

-- the entries of a partial picture that has the readings of some entries are these entries
pub bare_again : (shape : PictureShape) (es : List BareEntry) (p : PartialPicture) → AreEntries shape es
    → from_list (readings_of_entries es) ≡ p.readings → bare_entries p ≡ es
bare_again shape es p kept is =
    ap (map (λ (at : LinePlace). (at, readings_at p at.component at.line))) (places_again shape es p kept is)
    ∙ made_again (λ at. readings_at p at.component at.line) es
    (all_same (λ at. readings_at p at.component at.line) (samples_at es) es (λ at. readings_kept shape es p at.component at.line kept is)
    (all_found es kept.sorted))

-- ---- the entries of a partial hold its readings

places_of_entries : (f : LinePlace → List (List ℕ)) (ps : List LinePlace)
    → map (λ (e : BareEntry). e.0) (map (λ (at : LinePlace). (at, f at)) ps) ≡ ps
places_of_entries f [] = refl
places_of_entries f (p ∷ ps) = ap (λ (t : List LinePlace). p ∷ t) (places_of_entries f ps)

pub entries_rise : (p : PartialPicture) → IsStrictlySortedBy place_cmp (map (λ e. e.0) (bare_entries p))
entries_rise p = subst (IsStrictlySortedBy place_cmp) (sym (places_of_entries (λ at. readings_at p at.component at.line) (places_held p)))
    (items_rise (from_list {R = place_cmp} (map place_of (items p.readings))))

-- what stands at a place that is looked up among made entries
lookup_made : (f : LinePlace → List (List ℕ)) (q : LinePlace) (ps : List LinePlace)
    → lookup (is_at (place_cmp q)) (map (λ at. (at, f at)) ps) ≡ cond (list_any (eq_by_cmp place_cmp q) ps) (Some (f q)) None
lookup_made f q [] = refl
lookup_made f q (p ∷ ps) =
    elim (eq_by_cmp place_cmp q p) as (λ b. eq_by_cmp place_cmp q p ≡ b
    → cond b (Some (f p)) (lookup (is_at (place_cmp q)) (map (λ at. (at, f at)) ps))
    ≡ cond (b || list_any (eq_by_cmp place_cmp q) ps) (Some (f q)) None) [
      | true ↦ λ e. ap (λ (z : LinePlace). Some (f z)) (sym (same_place q p e))
      | false ↦ λ e. lookup_made f q ps
    ] refl

-- a reading is there exactly if its samples are among those of its line
same_line : (r x : Reading) → eq_by_cmp reading_cmp r x ≡ (is_there r.component r.line x && eq_by_cmp S r.samples x.samples)
same_line r x = eq_reading r (place_of x) x.samples
    ∙ ap (λ b. b && eq_by_cmp S r.samples x.samples) (sym (eq_there r.component r.line (place_of x)))

-- a reading is one of a list exactly where its samples are among those of the list at its place
any_there : (r : Reading) (rs : List Reading)
    → list_any (eq_by_cmp S r.samples) (map (λ x. x.samples) (filter (is_there r.component r.line) rs))
    ≡ list_any (eq_by_cmp reading_cmp r) rs
any_there r [] = refl
any_there r (x ∷ rs) =
    elim (is_there r.component r.line x) as (λ b. is_there r.component r.line x ≡ b →
    list_any (eq_by_cmp S r.samples)
    (map (λ x. x.samples) (cond b (x ∷ filter (is_there r.component r.line) rs) (filter (is_there r.component r.line) rs)))
    ≡ (eq_by_cmp reading_cmp r x || list_any (eq_by_cmp reading_cmp r) rs)) [
      | true ↦ λ e. λ i. (sym (same_line r x ∙ ap (λ b. b && eq_by_cmp S r.samples x.samples) e)) i || any_there r rs i
      | false ↦ λ e. any_there r rs ∙ ap (λ b. b || list_any (eq_by_cmp reading_cmp r) rs)
          (sym (same_line r x ∙ ap (λ b. b && eq_by_cmp S r.samples x.samples) e))
    ] refl

-- where the first parts differ, so do the whole orders
first_part : (r s t : Ordering) → is_eq (ordering_then r s) ≡ false → is_eq (ordering_then r (ordering_then s t)) ≡ false
first_part Less s t e = refl
first_part Equal Less t e = refl
first_part Equal Equal t e = absurd cc
first_part Equal Greater t e = refl
first_part Greater s t e = refl

-- where no reading is at a place, no reading there is among them
none_there : (r : Reading) (rs : List Reading) → list_any (eq_by_cmp place_cmp (place_of r)) (map place_of rs) ≡ false
    → list_any (eq_by_cmp reading_cmp r) rs ≡ false
none_there r [] e = refl
none_there r (x ∷ rs) e =
    let p = or_parts (eq_by_cmp place_cmp (place_of r) (place_of x)) _ e in
    λ i. first_part (nat_cmp r.component x.component) (nat_cmp r.line x.line) (S r.samples x.samples) p.0 i || none_there r rs p.1 i

-- the readings of a partial picture's entries are the readings that it holds
pub set_again : (p : PartialPicture) → from_list {R = reading_cmp} (readings_of_entries (bare_entries p)) ≡ p.readings
set_again p = same_set reading_total reading_exact (from_list (readings_of_entries (bare_entries p))) p.readings (λ r.
    contains-from_list reading_total (readings_of_entries (bare_entries p)) r ∙ any-entries (bare_entries p) r (entries_rise p)
    ∙ ap (λ (o : Option (List (List ℕ))). list_any (eq_by_cmp S r.samples) (unwrap_or o []))
    (lookup_made (λ at. readings_at p at.component at.line) (place_of r) (places_held p))
    ∙ ap (λ b. list_any (eq_by_cmp S r.samples) (unwrap_or (cond b (Some (readings_at p r.component r.line)) None) [])) (held_place r)
    ∙ step r
    ∙ sym (contains-items p.readings r))
  where
    held_place : (r : Reading)
        → list_any (eq_by_cmp place_cmp (place_of r)) (places_held p)
        ≡ list_any (eq_by_cmp place_cmp (place_of r)) (map place_of (items p.readings))
    held_place r = sym (contains-items (from_list {R = place_cmp} (map place_of (items p.readings))) (place_of r))
        ∙ contains-from_list place_total (map place_of (items p.readings)) (place_of r)

    step : (r : Reading)
        → list_any (eq_by_cmp S r.samples)
        (unwrap_or (cond (list_any (eq_by_cmp place_cmp (place_of r)) (map place_of (items p.readings)))
        (Some (readings_at p r.component r.line)) None) []) ≡ list_any (eq_by_cmp reading_cmp r) (items p.readings)
    step r =
        elim (list_any (eq_by_cmp place_cmp (place_of r)) (map place_of (items p.readings))) as (λ b. list_any
        (eq_by_cmp place_cmp (place_of r)) (map place_of (items p.readings)) ≡ b →
        list_any (eq_by_cmp S r.samples) (unwrap_or (cond b (Some (readings_at p r.component r.line)) None) [])
        ≡ list_any (eq_by_cmp reading_cmp r) (items p.readings)) [
          | true ↦ λ e. any_there r (items p.readings)
          | false ↦ λ e. sym (none_there r (items p.readings) e)
        ] refl

-- ---- the entries of a partial are in order, and fit

-- two readings of one line compare as their samples do
same_line_cmp : (c l : ℕ) (x y : Reading) → is_there c l x ≡ true → is_there c l y ≡ true → reading_cmp x y ≡ S x.samples y.samples
same_line_cmp c l x y p q =
    let xs = and_parts (x.component == c) (x.line == l) p in
    let ys = and_parts (y.component == c) (y.line == l) q in
    let one : x.component ≡ y.component = eqb-true x.component c xs.0 ∙ sym (eqb-true y.component c ys.0) in
    let two : x.line ≡ y.line = eqb-true x.line l xs.1 ∙ sym (eqb-true y.line l ys.1) in
    let r : nat_cmp x.component y.component ≡ Equal = rw one (tied_itself nat_cmp_total y.component) in
    let s : nat_cmp x.line y.line ≡ Equal = rw two (tied_itself nat_cmp_total y.line) in
    λ i. ordering_then (r i) (ordering_then (s i) (S x.samples y.samples))

-- readings above one of a place, at the same place, have samples above its own
below_there : (c l : ℕ) (x : Reading) (rs : List Reading) → is_there c l x ≡ true → AllByRecursion (λ y. reading_cmp x y ≡ Less) rs
    → AllByRecursion (λ y. S x.samples y ≡ Less) (map (λ r. r.samples) (filter (is_there c l) rs))
below_there c l x [] t h = tt
below_there c l x (y ∷ rs) t h =
    elim (is_there c l y) as (λ b. is_there c l y ≡ b
    → AllByRecursion (λ z. S x.samples z ≡ Less)
    (map (λ r. r.samples) (cond b (y ∷ filter (is_there c l) rs) (filter (is_there c l) rs)))) [
      | true ↦ λ e. (sym (same_line_cmp c l x y t e) ∙ h.0, below_there c l x rs t h.1)
      | false ↦ λ e. below_there c l x rs t h.1
    ] refl

-- the readings at one place rise by their samples, if all readings rise
sorted_there : (c l : ℕ) (rs : List Reading) → IsStrictlySortedBy reading_cmp rs
    → IsStrictlySortedBy S (map (λ r. r.samples) (filter (is_there c l) rs))
unfolding IsStrictlySortedBy
sorted_there c l [] h = tt
sorted_there c l (x ∷ rs) h =
    elim (is_there c l x) as (λ b. is_there c l x ≡ b
    → IsStrictlySortedBy S (map (λ r. r.samples) (cond b (x ∷ filter (is_there c l) rs) (filter (is_there c l) rs)))) [
      | true ↦ λ e. (below_there c l x rs e h.0, sorted_there c l rs h.1)
      | false ↦ λ e. sorted_there c l rs h.1
    ] refl

-- where a place is that of some reading, there is one at that place
some_there : (c l : ℕ) (rs : List Reading) → list_any (eq_by_cmp place_cmp (place c l)) (map place_of rs) ≡ true
    → 1 ≤ length (map (λ r. r.samples) (filter (is_there c l) rs))
some_there c l [] h = absurd cc
some_there c l (x ∷ rs) h =
    elim (is_there c l x) as (λ b. is_there c l x ≡ b → 1
    ≤ length (map (λ r. r.samples) (cond b (x ∷ filter (is_there c l) rs) (filter (is_there c l) rs)))) [
      | true ↦ λ e. omega arith
      | false ↦ λ e. some_there c l rs
          (ap (λ b. b || list_any (eq_by_cmp place_cmp (place c l)) (map place_of rs)) (sym e ∙ eq_there c l (place_of x)) ∙ h)
    ] refl

-- the samples of readings that fit, at one place, fit that place
fit_there : (shape : PictureShape) (c l : ℕ) (rs : List Reading)
    → AllByRecursion (λ r. reading_fault shape r.component r.line r.samples ≡ None) rs
    → AllByRecursion (λ x. reading_fault shape c l x ≡ None) (map (λ r. r.samples) (filter (is_there c l) rs))
fit_there shape c l [] h = tt
fit_there shape c l (x ∷ rs) h =
    elim (is_there c l x) as (λ b. is_there c l x ≡ b
    → AllByRecursion (λ x. reading_fault shape c l x ≡ None)
    (map (λ r. r.samples) (cond b (x ∷ filter (is_there c l) rs) (filter (is_there c l) rs)))) [
      | true ↦ λ e. let p = and_parts (x.component == c) (x.line == l) e in (
        ap (λ (n : ℕ). reading_fault shape n l x.samples) (sym (eqb-true x.component c p.0))
            ∙ ap (λ (n : ℕ). reading_fault shape x.component n x.samples) (sym (eqb-true x.line l p.1)) ∙ h.0,
        fit_there shape c l rs h.1,
      )
      | false ↦ λ e. fit_there shape c l rs h.1
    ] refl

each_made : (P : BareEntry → Type 0) (f : LinePlace → List (List ℕ)) (ps : List LinePlace) → AllByRecursion (λ at. P (at, f at)) ps
    → AllByRecursion P (map (λ (at : LinePlace). (at, f at)) ps)
each_made P f [] h = tt
each_made P f (p ∷ ps) h = (h.0, each_made P f ps h.1)

-- the entries of a partial picture, without their sources, are entries of its shape
pub entries_are : (p : PartialPicture) → IsPartial p → AreEntries p.shape (bare_entries p)
entries_are p is = record {
  sorted = entries_rise p;
  each = each_made (IsEntry p.shape) (λ at. readings_at p at.component at.line) (places_held p)
      (all_members place_total (λ at. IsEntry p.shape (at, readings_at p at.component at.line)) (places_held p)
      (λ at h. one at (sym (held_place at) ∙ h)));
}
  where
    held_place : (q : LinePlace)
        → list_any (eq_by_cmp place_cmp q) (places_held p) ≡ list_any (eq_by_cmp place_cmp q) (map place_of (items p.readings))
    held_place q = sym (contains-items (from_list {R = place_cmp} (map place_of (items p.readings))) q)
        ∙ contains-from_list place_total (map place_of (items p.readings)) q

    fit : AllByRecursion (λ (r : Reading). reading_fault p.shape r.component r.line r.samples ≡ None) (items p.readings)
    fit = all_members reading_total (λ (r : Reading). reading_fault p.shape r.component r.line r.samples ≡ None) (items p.readings)
        (λ r h. is.fitting r.component r.line r.samples (contains-items p.readings r ∙ h))

    one : (at : LinePlace) → list_any (eq_by_cmp place_cmp at) (map place_of (items p.readings)) ≡ true
        → IsEntry p.shape (at, readings_at p at.component at.line)
    one at h = record {
      read = some_there at.component at.line (items p.readings) h;
      sorted = sorted_there at.component at.line (items p.readings) (items_rise p.readings);
      countable = is.countable at.component at.line;
      fitting = fit_there p.shape at.component at.line (items p.readings) fit;
    }

-- ---- the lines of entries

pub first_none : {A : Type 0} (b : Bool) (x : A) (o : Option A) → cond b (Some x) o ≡ None → (b ≡ false) × (o ≡ None)
first_none true x o e = absurd cc
first_none false x o e = (refl, e)

-- a reading that fits is of a line of the picture
pub line_of_fit : (shape : PictureShape) (c l : ℕ) (x : List ℕ) → reading_fault shape c l x ≡ None
    → (c < length shape.ids) × (l < shape.height)
line_of_fit shape c l x e =
    let a = first_none (nat_le (length shape.ids) c) _ _ e in
    let b = first_none (nat_le shape.height l) _ _ a.1 in
    (leb-false _ _ a.0, leb-false _ _ b.0)

-- the place of an entry is one of the picture
pub line_of_entry : (shape : PictureShape) (e : BareEntry) → IsEntry shape e
    → (e.0.component < length shape.ids) × (e.0.line < shape.height)
line_of_entry shape (at, []) h = absurd (omega (arith, h.read))
line_of_entry shape (at, x ∷ xs) h = line_of_fit shape at.component at.line x h.fitting.0

-- ---- how many entries there are

-- where a line stands among all lines of four components
abbrev rank : LinePlace → ℕ
rank p = p.component * 2 ^ 16 + p.line

-- a place before another has the lower rank
rank_rises : (p q : LinePlace) → p.line < 2 ^ 16 → place_cmp p q ≡ Less → rank p < rank q
rank_rises p q lt e =
    elim (nat_cmp p.component q.component) as (λ r. nat_cmp p.component q.component ≡ r → ordering_then r (nat_cmp p.line q.line) ≡ Less
    → rank p < rank q) [
      | Less ↦ λ i h. let c = ranked p.component q.component Less (sym i) in omega (arith, c, lt)
      | Equal ↦ λ i h. let c = ranked p.component q.component Equal (sym i) in let d = ranked p.line q.line Less (sym h) in
          omega (arith, c, d)
      | Greater ↦ λ i h. absurd cc
    ] refl e

above_all : (p : LinePlace) (ps : List LinePlace) → p.line < 2 ^ 16 → AllByRecursion (λ q. place_cmp p q ≡ Less) ps
    → AllByRecursion (λ q. rank p + 1 ≤ rank q) ps
above_all p [] lt h = tt
above_all p (q ∷ ps) lt h = (let r = rank_rises p q lt h.0 in omega (arith, r), above_all p ps lt h.1)

-- places that rise, with ranks from one number on and below another, are no more than lie between
few_between : (n low : ℕ) (ps : List LinePlace) → low ≤ n → IsStrictlySortedBy place_cmp ps → AllByRecursion (λ p. low ≤ rank p) ps
    → AllByRecursion (λ p. (p.line < 2 ^ 16) × (rank p < n)) ps → length ps + low ≤ n
unfolding IsStrictlySortedBy
few_between n low [] le s h k = omega arith
few_between n low (p ∷ ps) le s h k =
    let rest : length ps + (rank p + 1) ≤ n =
    few_between n (rank p + 1) ps (let r = k.0.1 in omega (arith, r)) s.1 (above_all p ps k.0.0 s.0) k.1 in
    let first : low ≤ rank p = h.0 in
    omega (arith, rest, first)

all_low : (ps : List LinePlace) → AllByRecursion (λ p. 0 ≤ rank p) ps
all_low [] = tt
all_low (p ∷ ps) = (omega arith, all_low ps)

-- the places of entries that fit a shape have ranks below four times 2^16
lines_below : (shape : PictureShape) (es : List BareEntry) → IsShape shape → AllByRecursion (IsEntry shape) es
    → AllByRecursion (λ p. (p.line < 2 ^ 16) × (rank p < 4 * 2 ^ 16)) (map (λ (e : BareEntry). e.0) es)
lines_below shape [] is h = tt
lines_below shape (e ∷ es) is h =
    let p = line_of_entry shape e h.0 in
    let c : e.0.component < length shape.ids = p.0 in
    let l : e.0.line < shape.height = p.1 in
    let n = is.ids_at_most in
    let m = is.height_below in
    ((omega (arith, l, m), omega (arith, c, l, m, n)), lines_below shape es is h.1)

-- a picture has fewer than 2^32 entries
pub few_entries : (shape : PictureShape) (es : List BareEntry) → IsShape shape → AreEntries shape es → length es < 2 ^ 32
few_entries shape es is kept =
    let few : length (map (λ (e : BareEntry). e.0) es) + 0 ≤ 4 * 2 ^ 16 =
    few_between (4 * 2 ^ 16) 0 (map (λ (e : BareEntry). e.0) es) (omega arith) kept.sorted (all_low (map (λ (e : BareEntry). e.0) es))
    (lines_below shape es is kept.each) in
    omega (arith, few, length-map es (λ (e : BareEntry). e.0))
