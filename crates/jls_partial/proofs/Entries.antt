-- What is kept at each place, and the set of readings that it makes.
use Rattle.std.proofs.Common.{◌≡◌, ℕ, ◌<◌, ◌^◌, Bool, true, false, cond, ◌&&◌, ◌||◌, List, [], ◌∷◌, length, map, Option, Some, None, refl}
use Rattle.std.proofs.Common.{ap, sym, subst, ◌∙◌, arith}
use Rattle.std.specs.Prelude.{IfSome, unwrap_or}
use Rattle.std.specs.declared.cmp.Ordering.{Ordering}
use Rattle.std.specs.declared.cmp.Ordering.TheVariants.{Less}
use Rattle.std.specs.Ordering.{nat_cmp, eq_by_cmp}
use Rattle.std.specs.Cmp.Lexicographic.{slice_cmp}
use Rattle.jls_values.specs.OrderedSet.{OrderedSet, from_list, contains, insert}
use Rattle.jls_values.specs.OrderedSetLaws.{same_set, contains-from_list, contains-insert, or_false}
use Rattle.std.specs.List.{list_any, AllByRecursion}
use Rattle.std.specs.List.Sorted.{IsStrictlySortedBy}
use Rattle.std.specs.BTreeMap.{is_at}
use Rattle.std.specs.Map.{lookup}
use Rattle.std.proofs.lemmas.List.Concat.{flat_map-cons}
use Rattle.std.proofs.lemmas.List.Folds.{list_any-append}
use Rattle.jls_values.specs.Shape.{PictureShape}
use Rattle.jls_values.proofs.Tests.{with_either}
use Rattle.jls_partial.specs.declared.line_place.LinePlace.{LinePlace}
use Rattle.jls_partial.specs.Entries.{BareEntry, at_place, readings_of_entries}
use Rattle.jls_partial.specs.Held.{IsEntry, AreEntries}
use Rattle.jls_partial.specs.InsertFaults.{reading_fault}
use Rattle.jls_partial.specs.Partial.{PartialPicture, holds}
use Rattle.jls_partial.specs.LinePlace.{place, place_cmp, place_of}
use Rattle.jls_partial.specs.Reading.{Reading, reading_cmp}
use Rattle.jls_partial.proofs.KeyedLists.{none_by, each_by, lookup_by}
use Rattle.jls_partial.specs.ReadingOrder.{place_total, reading_total, reading_exact, eq_reading, same_place, same_samples, same_reading}

-- the order of sample lists
abbrev pub S : List ℕ → List ℕ → Ordering
S = slice_cmp nat_cmp

-- the samples that are kept at a place
abbrev pub samples_at : List BareEntry → LinePlace → List (List ℕ)
samples_at entries at = unwrap_or (lookup (is_at (place_cmp at)) entries) []

-- what the readings at one place are
any-at_place : (r : Reading) (p : LinePlace) (xs : List (List ℕ))
    → list_any (eq_by_cmp reading_cmp r) (map (at_place p) xs) ≡ (eq_by_cmp place_cmp (place_of r) p && list_any (eq_by_cmp S r.samples) xs)
any-at_place r p [] = none (eq_by_cmp place_cmp (place_of r) p)
  where
    none : (b : Bool) → false ≡ (b && false)
    none true = refl
    none false = refl
any-at_place r p (x ∷ xs) =
    (λ i. eq_reading r p x i || any-at_place r p xs i)
    ∙ with_either (eq_by_cmp place_cmp (place_of r) p) (eq_by_cmp S r.samples x) (list_any (eq_by_cmp S r.samples) xs)

pub none_kept : {X : Type 0} (q p : LinePlace) (es : List (LinePlace × X)) → is_at (place_cmp q) p ≡ true
    → AllByRecursion (λ q. place_cmp p q ≡ Less) (map (λ e. e.0) es) → lookup (is_at (place_cmp q)) es ≡ None
none_kept q p es e h = none_by place_total same_place q p es e h

-- a reading is in the list of all exactly if it is kept at its place
pub any-entries : (es : List BareEntry) (r : Reading) → IsStrictlySortedBy place_cmp (map (λ e. e.0) es)
    → list_any (eq_by_cmp reading_cmp r) (readings_of_entries es) ≡ list_any (eq_by_cmp S r.samples) (samples_at es (place_of r))
unfolding IsStrictlySortedBy
any-entries [] r h = refl
any-entries (e ∷ es) r h =
    let test = eq_by_cmp reading_cmp r in
    ap (list_any test) (flat_map-cons (λ (e : BareEntry). map (at_place e.0) e.1) e es)
    ∙ list_any-append test (map (at_place e.0) e.1) (readings_of_entries es)
    ∙ (λ i. any-at_place r e.0 e.1 i || any-entries es r h.1 i)
    ∙ elim (eq_by_cmp place_cmp (place_of r) e.0) as (λ b. eq_by_cmp place_cmp (place_of r) e.0 ≡ b →
    ((b && list_any (eq_by_cmp S r.samples) e.1) || list_any (eq_by_cmp S r.samples) (samples_at es (place_of r)))
    ≡ list_any (eq_by_cmp S r.samples) (unwrap_or (cond b (Some e.1) (lookup (is_at (place_cmp (place_of r))) es)) [])) [
      | true ↦ λ t. ap (λ (o : Option (List (List ℕ))). list_any (eq_by_cmp S r.samples) e.1 || list_any (eq_by_cmp S r.samples)
          (unwrap_or o [])) (none_kept (place_of r) e.0 es t h.0) ∙ or_false (list_any (eq_by_cmp S r.samples) e.1)
      | false ↦ λ t. refl
    ] refl

-- what holds at each place that is kept
pub each_from_lookup : {X : Type 0} (P : LinePlace × X → Type 0) (es : List (LinePlace × X))
    → IsStrictlySortedBy place_cmp (map (λ e. e.0) es)
    → ((q : LinePlace) → IfSome (lookup (is_at (place_cmp q)) es) (λ xs. P (q, xs))) → AllByRecursion P es
each_from_lookup P es h f = each_by place_total same_place P es h f

pub lookup_from_each : {X : Type 0} (P : LinePlace × X → Type 0) (es : List (LinePlace × X)) (q : LinePlace) → AllByRecursion P es
    → IfSome (lookup (is_at (place_cmp q)) es) (λ xs. P (q, xs))
lookup_from_each P es q h = lookup_by place_total same_place P es q h

-- what holds of each item holds of one that is among them by the test
pub any_all : (P : List ℕ → Type 0) (x : List ℕ) (xs : List (List ℕ)) → AllByRecursion P xs → list_any (eq_by_cmp S x) xs ≡ true → P x
any_all P x [] h e = absurd cc
any_all P x (y ∷ xs) h e =
    elim (eq_by_cmp S x y) as (λ b. eq_by_cmp S x y ≡ b → (b || list_any (eq_by_cmp S x) xs) ≡ true → P x) [
      | true ↦ λ t _. subst P (sym (same_samples x y t)) h.0
      | false ↦ λ t f. any_all P x xs h.1 f
    ] refl e

-- a reading is held exactly where it is kept at its place
pub holds_kept : (shape : PictureShape) (es : List BareEntry) (p : PartialPicture) (c l : ℕ) (x : List ℕ) → AreEntries shape es
    → from_list (readings_of_entries es) ≡ p.readings → holds p c l x ≡ list_any (eq_by_cmp S x) (samples_at es (place c l))
holds_kept shape es p c l x kept is =
    ap (λ (s : OrderedSet reading_cmp). contains s (at_place (place c l) x)) (sym is)
    ∙ contains-from_list reading_total (readings_of_entries es) (at_place (place c l) x)
    ∙ any-entries es (at_place (place c l) x) kept.sorted

-- samples that are kept at a place fit it
pub fits_kept : (shape : PictureShape) (es : List BareEntry) (c l : ℕ) (x : List ℕ) → AreEntries shape es
    → list_any (eq_by_cmp S x) (samples_at es (place c l)) ≡ true → reading_fault shape c l x ≡ None
fits_kept shape es c l x kept e =
    elim (lookup (is_at (place_cmp (place c l))) es) as (λ (o : Option (List (List ℕ))). IfSome o (λ xs. IsEntry shape (place c l, xs))
    → list_any (eq_by_cmp S x) (unwrap_or o []) ≡ true → reading_fault shape c l x ≡ None) [
      | None ↦ λ k f. absurd cc
      | Some xs ↦ λ k f. any_all (λ y. reading_fault shape c l y ≡ None) x xs k.fitting f
    ] (lookup_from_each (IsEntry shape) es (place c l) kept.each) e

-- a reading that is held is held once
pub held_same : (s : OrderedSet reading_cmp) (r : Reading) → contains s r ≡ true → insert s r ≡ s
held_same s r h = same_set reading_total reading_exact _ _ (λ q. contains-insert reading_total s r q ∙ step q)
  where
    step : (q : Reading) → (eq_by_cmp reading_cmp q r || contains s q) ≡ contains s q
    step q =
        elim (eq_by_cmp reading_cmp q r) as (λ b. eq_by_cmp reading_cmp q r ≡ b → (b || contains s q) ≡ contains s q) [
          | true ↦ λ e. sym h ∙ ap (contains s) (sym (same_reading q r e))
          | false ↦ λ e. refl
        ] refl

-- what is kept at a place can be counted
pub countable_at : (shape : PictureShape) (es : List BareEntry) (q : LinePlace) → AreEntries shape es → length (samples_at es q) < 2 ^ 64
countable_at shape es q kept =
    elim (lookup (is_at (place_cmp q)) es) as (λ (o : Option (List (List ℕ))). IfSome o (λ xs. IsEntry shape (q, xs))
    → length (unwrap_or o []) < 2 ^ 64) [
      | None ↦ λ k. omega arith
      | Some xs ↦ λ k. k.countable
    ] (lookup_from_each (IsEntry shape) es q kept.each)
