-- The entries of a text: what is read has these bytes as its text, and each entry that was written is read again.
use Rattle.std.proofs.Common.{◌≡◌, ℕ, zero, suc, ◌^◌, ◌<◌, ◌≤◌, true, false, cond, eqb, ◌&&◌, List, [], ◌∷◌, ◌++◌, length, map, Option}
use Rattle.std.proofs.Common.{Some, None, Result, Ok, Err, refl, sym, ap, subst, ◌∙◌, append_assoc, arith}
use Rattle.std.specs.Prelude.{nat_lt, nat_le}
use Rattle.std.specs.Int.{w16, w64, to_be_bytes}
use Rattle.std.specs.Ordering.{is_lt}
use Rattle.std.specs.declared.cmp.Ordering.TheVariants.{Less}
use Rattle.std.specs.List.{flat_map, AllByRecursion}
use Rattle.std.specs.List.Sorted.{IsStrictlySortedBy}
use Rattle.std.proofs.Math.Nat.{pow-le-pow_right}
use Rattle.std.proofs.lemmas.Bool.{ltb-true, lt-ltb, lt-leb, ne_eqb, and_parts, and_from}
use Rattle.std.proofs.lemmas.List.{length-map}
use Rattle.std.proofs.lemmas.List.Concat.{flat_map-cons}
use Rattle.jls_values.specs.Shape.{PictureShape, IsShape}
use Rattle.jls_partial.specs.declared.line_place.LinePlace.{LinePlace}
use Rattle.jls_partial.specs.declared.text_fault.TextFault.{TextFault}
use Rattle.jls_partial.specs.declared.text_fault.TextFault.TheVariants as fault
use Rattle.jls_partial.specs.InsertFaults.{reading_fault, samples_fault}
use Rattle.jls_partial.specs.declared.version.Version.{Version}
use Rattle.jls_partial.specs.Entries.{Entry, bare}
use Rattle.jls_partial.specs.Held.{IsEntry}
use Rattle.jls_partial.specs.Packed.{Kept}
use Rattle.jls_partial.specs.LinePlace.{place, place_cmp}
use Rattle.jls_partial.specs.ReadingOrder.{place_total}
use Rattle.jls_partial.specs.Text.{reading_text, entry_text}
use Rattle.jls_partial.specs.TextReading.{◌>>=◌, offset, byte_field, number_field, readings_fields, may_follow, place_fields, count_field}
use Rattle.jls_partial.specs.TextReading.{entry_fields, entries_fields}
use Rattle.jls_partial.proofs.BareEntries.{first_none, line_of_entry}
use Rattle.jls_partial.proofs.TextFields.{IsBytes, bind_ok, guard_ok, passed_ok, ok_is, Takes, Takes-then, wide16, wide64, number_takes}
use Rattle.jls_partial.proofs.TextFields.{number_again, byte_takes, byte_again}
use Rattle.jls_partial.proofs.TextReadings.{less_from_lt, sorted_from_rise, rise_from_sorted, IsSaid, readings_take, readings_again}

-- ---- the place of an entry

abbrev place_text : LinePlace → List ℕ
place_text at = at.component ∷ to_be_bytes w16 at.line

abbrev followed : ℕ → PictureShape → Option LinePlace → List ℕ → ℕ → ℕ × List ℕ → Result (LinePlace × List ℕ) TextFault
followed size shape before bytes component line =
    cond (may_follow shape before (place component line.0)) (Ok (place component line.0, line.1)) (Err (fault.Place (offset size bytes)))

-- a place that is read has its bytes as its text, and may follow the place before
place_takes : (size : ℕ) (shape : PictureShape) (before : Option LinePlace) (bytes : List ℕ) (x : LinePlace × List ℕ) → IsBytes bytes
    → place_fields size shape before bytes ≡ Ok x
    → Takes bytes (place_text x.0) x.1 × (may_follow shape before x.0 ≡ true)
unfolding place_fields
place_takes size shape before bytes x fits e =
    let c = bind_ok (byte_field size bytes)
    (λ component. number_field size w16 component.1 >>= followed size shape before bytes component.0) x e in
    let l = bind_ok (number_field size w16 c.0.1) (followed size shape before bytes c.0.0) x c.2 in
    let g = passed_ok (may_follow shape before (place c.0.0 l.0.0)) (fault.Place (offset size bytes)) (place c.0.0 l.0.0, l.0.1) x l.2 in
    let t0 = byte_takes size bytes c.0.0 c.0.1 fits c.1 in
    let t1 = number_takes size w16 (2 ^ 16) wide16 c.0.1 l.0.0 l.0.1 t0.0.rest_fits l.1 in
    let both = Takes-then bytes (c.0.0 ∷ []) c.0.1 (to_be_bytes w16 l.0.0) l.0.1 t0.0 t1.0 in
    subst (λ (y : LinePlace × List ℕ). Takes bytes (place_text y.0) y.1 × (may_follow shape before y.0 ≡ true)) g.1 (both, g.0)

-- a place that was written is read again, whatever follows
place_again : (size : ℕ) (shape : PictureShape) (before : Option LinePlace) (at : LinePlace) (rest : List ℕ) → at.line < 2 ^ 16
    → may_follow shape before at ≡ true → place_fields size shape before (place_text at ++ rest) ≡ Ok (at, rest)
unfolding place_fields
place_again size shape before at rest lt follows =
    rw (byte_again size at.component (to_be_bytes w16 at.line ++ rest), number_again size w16 (2 ^ 16) wide16 at.line rest lt, follows) refl

-- ---- the number of readings

-- a count that is read has its bytes as its text, and is 1 or more
count_takes : (size : ℕ) (bytes : List ℕ) (x : ℕ × List ℕ) → IsBytes bytes → count_field size bytes ≡ Ok x
    → Takes bytes (to_be_bytes w64 x.0) x.1 × (x.0 < 2 ^ 64) × (1 ≤ x.0)
unfolding count_field
count_takes size bytes x fits e =
    let n = bind_ok (number_field size w64 bytes) (λ count. cond (eqb count.0 0) (Err (fault.Count (offset size bytes))) (Ok count)) x e in
    let g = guard_ok (eqb n.0.0 0) (fault.Count (offset size bytes)) n.0 x n.2 in
    let t = number_takes size w64 (2 ^ 64) wide64 bytes n.0.0 n.0.1 fits n.1 in
    subst (λ (y : ℕ × List ℕ). Takes bytes (to_be_bytes w64 y.0) y.1 × (y.0 < 2 ^ 64) × (1 ≤ y.0)) g.1 (t.0, t.1, positive n.0.0 g.0)
  where
    positive : (n : ℕ) → eqb n 0 ≡ false → 1 ≤ n
    positive zero e = absurd cc
    positive (suc n) e = omega arith

-- a count that was written is read again, whatever follows
count_again : (size n : ℕ) (rest : List ℕ) → n < 2 ^ 64 → 1 ≤ n → count_field size (to_be_bytes w64 n ++ rest) ≡ Ok (n, rest)
unfolding count_field
count_again size n rest lt some =
    let not_zero : eqb n 0 ≡ false = ne_eqb n 0 (λ e. absurd (omega (arith, e, some))) in
    rw (number_again size w64 (2 ^ 64) wide64 n rest lt, not_zero) refl

-- ---- an entry

-- a place that may follow is one of the picture
in_picture : (shape : PictureShape) (before : Option LinePlace) (at : LinePlace) → may_follow shape before at ≡ true
    → (at.component < length shape.ids) × (at.line < shape.height)
in_picture shape None at e =
    let p = and_parts (nat_lt at.component (length shape.ids)) (nat_lt at.line shape.height) e in
    (ltb-true _ _ p.0, ltb-true _ _ p.1)
in_picture shape (Some b) at e =
    let q = and_parts (is_lt (place_cmp b at)) (nat_lt at.component (length shape.ids) && nat_lt at.line shape.height) e in
    let p = and_parts (nat_lt at.component (length shape.ids)) (nat_lt at.line shape.height) q.1 in
    (ltb-true _ _ p.0, ltb-true _ _ p.1)

-- an entry that is read is of a line of the picture
pub place_inside : (size : ℕ) (shape : PictureShape) (before : Option LinePlace) (bytes : List ℕ) (x : LinePlace × List ℕ)
    → place_fields size shape before bytes ≡ Ok x → (x.0.component < length shape.ids) × (x.0.line < shape.height)
unfolding place_fields
place_inside size shape before bytes x e =
    let c = bind_ok (byte_field size bytes)
    (λ component. number_field size w16 component.1 >>= followed size shape before bytes component.0) x e in
    let l = bind_ok (number_field size w16 c.0.1) (followed size shape before bytes c.0.0) x c.2 in
    let g = passed_ok (may_follow shape before (place c.0.0 l.0.0)) (fault.Place (offset size bytes)) (place c.0.0 l.0.0, l.0.1) x l.2 in
    subst (λ (y : LinePlace × List ℕ). (y.0.component < length shape.ids) × (y.0.line < shape.height)) g.1
    (in_picture shape before (place c.0.0 l.0.0) g.0)

pub fits_there : (shape : PictureShape) (c l : ℕ) (xs : List ℕ) → c < length shape.ids → l < shape.height
    → samples_fault shape.precision shape.width xs ≡ None → reading_fault shape c l xs ≡ None
fits_there shape c l xs cs ls fit = rw (lt-leb (length shape.ids) c cs, lt-leb shape.height l ls) fit

-- samples without a fault fit each place of the picture
all_fit_there : (shape : PictureShape) (c l : ℕ) (xs : List (List ℕ)) → c < length shape.ids → l < shape.height
    → AllByRecursion (λ s. samples_fault shape.precision shape.width s ≡ None) xs
    → AllByRecursion (λ s. reading_fault shape c l s ≡ None) xs
all_fit_there shape c l [] cs ls h = tt
all_fit_there shape c l (x ∷ xs) cs ls h = (fits_there shape c l x cs ls h.0, all_fit_there shape c l xs cs ls h.1)

-- samples that fit a place have no fault of their own
samples_of_fit : (shape : PictureShape) (c l : ℕ) (xs : List (List ℕ)) → AllByRecursion (λ s. reading_fault shape c l s ≡ None) xs
    → AllByRecursion (λ s. samples_fault shape.precision shape.width s ≡ None) xs
samples_of_fit shape c l [] h = tt
samples_of_fit shape c l (x ∷ xs) h =
    let a = first_none (nat_le (length shape.ids) c) _ _ h.0 in
    let b = first_none (nat_le shape.height l) _ _ a.1 in
    (b.1, samples_of_fit shape c l xs h.1)

-- an entry that a text of a version says: it fits the picture, and its sources are in order
abbrev pub IsSaidEntry : Version → PictureShape → Entry → Type 0
IsSaidEntry version shape e = IsEntry shape (bare e) × AllByRecursion (IsSaid version) e.1

-- what an entry was read from: its place, the number of its readings, and these
pub entry_parts : (size : ℕ) (version : Version) (shape : PictureShape) (before : Option LinePlace) (bytes : List ℕ) (x : Entry × List ℕ)
    → entry_fields size version shape before bytes ≡ Ok x
    → (p : LinePlace × List ℕ) × (n : ℕ × List ℕ) × (r : List Kept × List ℕ) × (place_fields size shape before bytes ≡ Ok p)
    × (count_field size p.1 ≡ Ok n) × (readings_fields size version shape None n.0 n.1 ≡ Ok r) × (((p.0, r.0), r.1) ≡ x)
unfolding entry_fields
entry_parts size version shape before bytes x e =
    let p = bind_ok (place_fields size shape before bytes)
    (λ at. count_field size at.1 >>= λ count. readings_fields size version shape None count.0 count.1 >>= λ readings. Ok
    ((at.0, readings.0), readings.1)) x e in
    let n = bind_ok (count_field size p.0.1)
    (λ count. readings_fields size version shape None count.0 count.1 >>= λ readings. Ok ((p.0.0, readings.0), readings.1)) x p.2 in
    let r = bind_ok (readings_fields size version shape None n.0.0 n.0.1) (λ readings. Ok ((p.0.0, readings.0), readings.1)) x n.2 in
    let made : Entry × List ℕ = ((p.0.0, r.0.0), r.0.1) in
    (p.0, n.0, r.0, p.1, n.1, r.1, ok_is made x r.2)

-- an entry that is read has its bytes as its text, and is one that the text may say there
entry_takes : (size : ℕ) (version : Version) (shape : PictureShape) (before : Option LinePlace) (bytes : List ℕ) (x : Entry × List ℕ)
    → IsBytes bytes → entry_fields size version shape before bytes ≡ Ok x
    → Takes bytes (entry_text version x.0) x.1 × (may_follow shape before x.0.0 ≡ true) × IsSaidEntry version shape x.0
entry_takes size version shape before bytes x fits e =
    let parts = entry_parts size version shape before bytes x e in
    let p = parts.0 in
    let n = parts.1 in
    let r = parts.2 in
    let t0 = place_takes size shape before bytes p fits parts.3 in
    let t1 = count_takes size p.1 n t0.0.rest_fits parts.4 in
    let t2 = readings_take size version shape None n.0 n.1 r t1.0.rest_fits parts.5 in
    let count : length r.0 ≡ n.0 = t2.1 in
    let samples = map (λ (k : Kept). k.0) r.0 in
    let bare_count : length samples ≡ length r.0 = length-map r.0 (λ (k : Kept). k.0) in
    let below : n.0 < 2 ^ 64 = t1.1 in
    let some : 1 ≤ n.0 = t1.2 in
    let inside = in_picture shape before p.0 t0.1 in
    let body = flat_map (reading_text version) r.0 in
    let e12 = Takes-then p.1 (to_be_bytes w64 n.0) n.1 body r.1 t1.0 t2.0 in
    let e02 = Takes-then bytes (place_text p.0) p.1 (to_be_bytes w64 n.0 ++ body) r.1 t0.0 e12 in
    let is : IsEntry shape (p.0, samples) = record {
      read = omega (arith, bare_count, count, some);
      sorted = sorted_from_rise samples t2.2;
      countable = omega (arith, bare_count, count, below);
      fitting = all_fit_there shape p.0.component p.0.line samples inside.0 inside.1 t2.3;
    } in
    let whole : Takes bytes (entry_text version (p.0, r.0)) r.1 =
    subst (λ (t : List ℕ). Takes bytes t r.1) (sym (append_assoc (place_text p.0) (to_be_bytes w64 (length r.0)) body))
    (subst (λ (k : ℕ). Takes bytes (place_text p.0 ++ (to_be_bytes w64 k ++ body)) r.1) (sym count) e02) in
    subst (λ (y : Entry × List ℕ). Takes bytes (entry_text version y.0) y.1 × (may_follow shape before y.0.0 ≡ true)
    × IsSaidEntry version shape y.0) parts.6 (whole, t0.1, (is, t2.4))

-- an entry that was written is read again, whatever follows
entry_again : (size : ℕ) (version : Version) (shape : PictureShape) (before : Option LinePlace) (e : Entry) (rest : List ℕ) → IsShape shape
    → may_follow shape before e.0 ≡ true → IsSaidEntry version shape e
    → entry_fields size version shape before (entry_text version e ++ rest) ≡ Ok (e, rest)
unfolding entry_fields
entry_again size version shape before e rest is follows said =
    let fits = said.0 in
    let samples = map (λ (k : Kept). k.0) e.1 in
    let bare_count : length samples ≡ length e.1 = length-map e.1 (λ (k : Kept). k.0) in
    let readings = flat_map (reading_text version) e.1 in
    let count = to_be_bytes w64 (length e.1) in
    let regrouped : entry_text version e ++ rest ≡ place_text e.0 ++ (count ++ (readings ++ rest)) =
    append_assoc (place_text e.0 ++ count) readings rest ∙ append_assoc (place_text e.0) count (readings ++ rest) in
    let inside = in_picture shape before e.0 follows in
    let line : e.0.line < shape.height = inside.1 in
    let high = is.height_below in
    let some = fits.read in
    let few = fits.countable in
    let le : 2 ^ shape.precision ≤ 2 ^ 16 = pow-le-pow_right {n = 2} (omega arith) is.precision_at_most in
    ap (entry_fields size version shape before) regrouped
    ∙ rw (
      place_again size shape before e.0 (count ++ (readings ++ rest)) (omega (arith, line, high)) follows,
      count_again size (length e.1) (readings ++ rest) (omega (arith, bare_count, few)) (omega (arith, bare_count, some)),
      readings_again size version shape None e.1 rest le (rise_from_sorted samples fits.sorted)
          (samples_of_fit shape e.0.component e.0.line samples fits.fitting) said.1,
    ) refl

-- ---- entries

-- each is of a line of the picture, after that of the one before
abbrev pub Follow : PictureShape → Option LinePlace → List Entry → Type 0
Follow shape before [] = Unit {0}
Follow shape before (e ∷ es) = (may_follow shape before e.0 ≡ true) × Follow shape (Some e.0) es

-- a place before one that is before all entries is before all of them
after_all : (b p : LinePlace) (es : List Entry) → place_cmp b p ≡ Less
    → AllByRecursion (λ q. place_cmp p q ≡ Less) (map (λ (e : Entry). e.0) es)
    → AllByRecursion (λ q. place_cmp b q ≡ Less) (map (λ (e : Entry). e.0) es)
after_all b p [] lt h = tt
after_all b p (e ∷ es) lt h = (place_total.trans b p e.0 lt h.0, after_all b p es lt h.1)

-- the places of entries that follow one are after it, and rise
sorted_after : (shape : PictureShape) (b : LinePlace) (es : List Entry) → Follow shape (Some b) es
    → AllByRecursion (λ q. place_cmp b q ≡ Less) (map (λ (e : Entry). e.0) es) × IsStrictlySortedBy place_cmp (map (λ (e : Entry). e.0) es)
unfolding IsStrictlySortedBy
sorted_after shape b [] h = (tt, tt)
sorted_after shape b (e ∷ es) h =
    let others = sorted_after shape e.0 es h.1 in
    let first : place_cmp b e.0 ≡ Less = less_from_lt (place_cmp b e.0) (and_parts (is_lt (place_cmp b e.0)) _ h.0).0 in
    ((first, after_all b e.0 es first others.0), others)

-- the places of entries that follow one another rise
pub sorted_from_follow : (shape : PictureShape) (es : List Entry) → Follow shape None es
    → IsStrictlySortedBy place_cmp (map (λ (e : Entry). e.0) es)
unfolding IsStrictlySortedBy
sorted_from_follow shape [] h = tt
sorted_from_follow shape (e ∷ es) h = sorted_after shape e.0 es h.1

inside_true : (shape : PictureShape) (e : Entry) → IsEntry shape (bare e)
    → (nat_lt e.0.component (length shape.ids) && nat_lt e.0.line shape.height) ≡ true
inside_true shape e is = let p = line_of_entry shape (bare e) is in and_from _ _ (lt-ltb _ _ p.0) (lt-ltb _ _ p.1)

-- entries whose places rise from one on follow it
follow_after : (shape : PictureShape) (b : LinePlace) (es : List Entry)
    → AllByRecursion (λ q. place_cmp b q ≡ Less) (map (λ (e : Entry). e.0) es) → IsStrictlySortedBy place_cmp (map (λ (e : Entry). e.0) es)
    → AllByRecursion (IsEntry shape) (map bare es) → Follow shape (Some b) es
unfolding IsStrictlySortedBy
follow_after shape b [] h s is = tt
follow_after shape b (e ∷ es) h s is = (and_from _ _ (ap is_lt h.0) (inside_true shape e is.0), follow_after shape e.0 es s.0 s.1 is.1)

-- entries whose places rise follow one another
pub follow_from_sorted : (shape : PictureShape) (es : List Entry) → IsStrictlySortedBy place_cmp (map (λ (e : Entry). e.0) es)
    → AllByRecursion (IsEntry shape) (map bare es) → Follow shape None es
unfolding IsStrictlySortedBy
follow_from_sorted shape [] s is = tt
follow_from_sorted shape (e ∷ es) s is = (inside_true shape e is.0, follow_after shape e.0 es s.0 s.1 is.1)

-- entries that are read have their bytes as their text, and are those that the text may say there
pub entries_take : (size : ℕ) (version : Version) (shape : PictureShape) (before : Option LinePlace) (n : ℕ) (bytes : List ℕ)
    (x : List Entry × List ℕ)
    → IsBytes bytes → entries_fields size version shape before n bytes ≡ Ok x
    → Takes bytes (flat_map (entry_text version) x.0) x.1 × (length x.0 ≡ n) × Follow shape before x.0
    × AllByRecursion (IsSaidEntry version shape) x.0
unfolding entries_fields
entries_take size version shape before zero bytes x fits e =
    subst (λ (y : List Entry × List ℕ). Takes bytes (flat_map (entry_text version) y.0) y.1 × (length y.0 ≡ 0) × Follow shape before y.0
    × AllByRecursion (IsSaidEntry version shape) y.0) (ok_is ([], bytes) x e)
    (record { parts = refl; rest_fits = fits }, refl, tt, tt)
entries_take size version shape before (suc n) bytes x fits e =
    let a = bind_ok (entry_fields size version shape before bytes)
    (λ first. entries_fields size version shape (Some first.0.0) n first.1 >>= λ others. Ok (first.0 ∷ others.0, others.1)) x e in
    let b = bind_ok (entries_fields size version shape (Some a.0.0.0) n a.0.1) (λ others. Ok (a.0.0 ∷ others.0, others.1)) x a.2 in
    let first = entry_takes size version shape before bytes a.0 fits a.1 in
    let second = entries_take size version shape (Some a.0.0.0) n a.0.1 b.0 first.0.rest_fits b.1 in
    let both = Takes-then bytes ((entry_text version a.0.0)) a.0.1 (flat_map (entry_text version) b.0.0) b.0.1 first.0 second.0 in
    let made : List Entry × List ℕ = (a.0.0 ∷ b.0.0, b.0.1) in
    subst (λ (y : List Entry × List ℕ). Takes bytes (flat_map (entry_text version) y.0) y.1 × (length y.0 ≡ suc n) × Follow shape before y.0
    × AllByRecursion (IsSaidEntry version shape) y.0) (ok_is made x b.2) (
      subst (λ (t : List ℕ). Takes bytes t b.0.1) (sym (flat_map-cons (entry_text version) a.0.0 b.0.0)) both,
      ap suc second.1,
      (first.1, second.2),
      (first.2, second.3),
    )

-- entries that were written are read again, whatever follows
pub entries_read : (size : ℕ) (version : Version) (shape : PictureShape) (before : Option LinePlace) (es : List Entry) (rest : List ℕ)
    → IsShape shape → Follow shape before es → AllByRecursion (IsSaidEntry version shape) es
    → entries_fields size version shape before (length es) (flat_map (entry_text version) es ++ rest) ≡ Ok (es, rest)
unfolding entries_fields
entries_read size version shape before [] rest is follow fit = refl
entries_read size version shape before (e ∷ es) rest is follow fit =
    let regrouped : flat_map (entry_text version) (e ∷ es) ++ rest ≡ entry_text version e ++ (flat_map (entry_text version) es ++ rest) =
    ap (λ (t : List ℕ). t ++ rest) (flat_map-cons (entry_text version) e es)
    ∙ append_assoc (entry_text version e) (flat_map (entry_text version) es) rest in
    ap (entries_fields size version shape before (suc (length es))) regrouped
    ∙ rw (
      entry_again size version shape before e (flat_map (entry_text version) es ++ rest) is follow.0 fit.0,
      entries_read size version shape (Some e.0) es rest is follow.1 fit.1,
    ) refl
