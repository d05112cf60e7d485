-- The two laws of texts: what is read has these bytes as its text, and each text is read.
use Rattle.std.proofs.Common.{◌≡◌, ℕ, ◌^◌, ◌<◌, Bool, true, false, cond, eqb, ◌&&◌, ◌||◌, List, [], ◌∷◌, ◌++◌, length, map, None, Result}
use Rattle.std.proofs.Common.{Ok, Err, refl, sym, ap, subst, ◌∙◌, append_assoc, arith}
use Rattle.std.specs.Prelude.{IfOk}
use Rattle.std.specs.Int.{w32, to_be_bytes}
use Rattle.std.specs.Ordering.{nat_cmp, eq_by_cmp}
use Rattle.std.specs.List.{list_any, flat_map, AllByRecursion}
use Rattle.std.specs.List.Sorted.{IsStrictlySortedBy}
use Rattle.std.proofs.lemmas.Bool.{eqb-true, and_parts}
use Rattle.std.proofs.lemmas.List.{append-nil, nil_from_length, length-map}
use Rattle.std.proofs.lemmas.Cmp.{nat_cmp_total}
use Rattle.std.proofs.lemmas.List.Concat.{flat_map-cons}
use Rattle.jls_values.specs.OrderedSet as set
use Rattle.jls_values.specs.OrderedSetLaws.{same_set, contains-empty}
use Rattle.jls_values.specs.Shape.{PictureShape, IsShape}
use Rattle.jls_values.specs.SourceList.{IsSourceList}
use Rattle.jls_values.proofs.Tests.{either}
use Rattle.jls_partial.specs.declared.line_place.LinePlace.{LinePlace}
use Rattle.jls_partial.specs.declared.text_fault.TextFault.{TextFault}
use Rattle.jls_partial.specs.declared.text_fault.TextFault.TheVariants as fault
use Rattle.jls_partial.specs.declared.version.Version.{Version}
use Rattle.jls_partial.specs.declared.version.Version.TheVariants.{One, Two}
use Rattle.jls_partial.specs.Entries.{Entry, BareEntry, bare, at_place, kept_at_place, kept_readings, partial_of}
use Rattle.jls_partial.specs.Held.{IsEntry, AreEntries}
use Rattle.jls_partial.specs.Marks.{mark_cmp, sources_of}
use Rattle.jls_partial.specs.MarkLaws.{contains-sources_of}
use Rattle.jls_partial.specs.Packed.{Kept}
use Rattle.jls_partial.specs.Partial.{PartialPicture, sources_at}
use Rattle.jls_partial.specs.LinePlace.{place, place_cmp}
use Rattle.jls_partial.specs.Reading.{Reading, reading_cmp}
use Rattle.jls_partial.specs.ReadingOrder.{marks_total, marks_exact}
use Rattle.jls_partial.specs.Text.{magic, version_byte, shape_text, entry_text, head_text, text_of, with_own_sources, bare_entries, entries}
use Rattle.jls_partial.specs.Text.{IsPartial, SaysAll, IsTextOf}
use Rattle.jls_partial.specs.TextReading.{◌>>=◌, GivesText, offset, number_field, magic_field, version_field, shape_fields, entries_fields}
use Rattle.jls_partial.specs.TextReading.{text_fields, read_text}
use Rattle.jls_partial.proofs.BareEntries.{items_rise, entries_are, few_entries}
use Rattle.jls_partial.proofs.Entries.{holds_kept, fits_kept, countable_at}
use Rattle.jls_partial.proofs.KeptEntries.{SourcesRise, readings_are, holds_reading, holds_mark, entries_again, bare_entries_are}
use Rattle.jls_partial.proofs.KeptEntries.{partial_again}
use Rattle.jls_partial.proofs.MarkSets.{has_item, has_mark, sources_again}
use Rattle.jls_partial.proofs.ReadBack.{readings_kept}
use Rattle.jls_partial.proofs.StorePuts.{all_items, small_of as small_in}
use Rattle.jls_partial.proofs.TextFields.{IsBytes, bind_ok, passed_ok, ok_is, Takes-then, wide32, number_takes, number_again, magic_takes}
use Rattle.jls_partial.proofs.TextFields.{magic_again, version_takes, version_again, shape_takes, shape_again}
use Rattle.jls_partial.proofs.TextReadings.{IsSaid}
use Rattle.jls_partial.proofs.TextSources.{SaysSources}
use Rattle.jls_partial.proofs.TextEntries.{IsSaidEntry, Follow, sorted_from_follow, follow_from_sorted, entries_take, entries_read}

-- ---- the text

abbrev Parts : Type 0
Parts = PictureShape × List Entry × List ℕ

-- entries that a text of a version says, in order
record AreSaid (version : Version) (shape : PictureShape) (es : List Entry) : Type 0 where
  pub entries : AreEntries shape (map bare es)
  pub said : AllByRecursion (λ e. AllByRecursion (IsSaid version) e.1) es

bare_places : (es : List Entry) → map (λ (e : BareEntry). e.0) (map bare es) ≡ map (λ (e : Entry). e.0) es
bare_places [] = refl
bare_places (e ∷ es) = ap (λ t. e.0 ∷ t) (bare_places es)

each_bare : (version : Version) (shape : PictureShape) (es : List Entry) → AllByRecursion (IsSaidEntry version shape) es
    → AllByRecursion (IsEntry shape) (map bare es) × AllByRecursion (λ e. AllByRecursion (IsSaid version) e.1) es
each_bare version shape [] h = (tt, tt)
each_bare version shape (e ∷ es) h = let rest = each_bare version shape es h.1 in ((h.0.0, rest.0), (h.0.1, rest.1))

each_said : (version : Version) (shape : PictureShape) (es : List Entry) → AllByRecursion (IsEntry shape) (map bare es)
    → AllByRecursion (λ e. AllByRecursion (IsSaid version) e.1) es → AllByRecursion (IsSaidEntry version shape) es
each_said version shape [] h k = tt
each_said version shape (e ∷ es) h k = ((h.0, k.0), each_said version shape es h.1 k.1)

-- entries that follow one another, each as a text may say it, are what a text may say
said_from_follow : (version : Version) (shape : PictureShape) (es : List Entry) → Follow shape None es
    → AllByRecursion (IsSaidEntry version shape) es → AreSaid version shape es
said_from_follow version shape es follow each =
    let parts = each_bare version shape es each in
    record {
      entries = record {
        sorted = subst (IsStrictlySortedBy place_cmp) (sym (bare_places es)) (sorted_from_follow shape es follow);
        each = parts.0;
      };
      said = parts.1;
    }

-- all that a text is made of
abbrev after_version : ℕ → Version × List ℕ → Result Parts TextFault
after_version size version = shape_fields size version.1 >>= λ shape. number_field size w32 shape.1 >>= λ count. entries_fields size
    version.0 shape.0 None count.0 count.1 >>= λ es. Ok (shape.0, es.0, es.1)

-- what is read of a text has its bytes as its text, in one of the versions
text_takes : (size : ℕ) (bytes : List ℕ) (x : Parts) → IsBytes bytes → text_fields size bytes ≡ Ok x
    → (version : Version) × (bytes ≡ text_of version x.0 x.1 ++ x.2) × IsShape x.0 × AreSaid version x.0 x.1
unfolding text_fields
text_takes size bytes x fits e =
    let m = bind_ok (magic_field size magic bytes) (λ version_bytes. version_field size version_bytes >>= after_version size) x e in
    let v = bind_ok (version_field size m.0) (after_version size) x m.2 in
    let version = v.0.0 in
    let s = bind_ok (shape_fields size v.0.1)
    (λ shape. number_field size w32 shape.1 >>= λ count. entries_fields size version shape.0 None count.0 count.1 >>= λ es. Ok
    (shape.0, es.0, es.1)) x v.2 in
    let n = bind_ok (number_field size w32 s.0.1)
    (λ count. entries_fields size version s.0.0 None count.0 count.1 >>= λ es. Ok (s.0.0, es.0, es.1)) x s.2 in
    let r = bind_ok (entries_fields size version s.0.0 None n.0.0 n.0.1) (λ es. Ok (s.0.0, es.0, es.1)) x n.2 in
    let t0 = magic_takes size magic bytes m.0 fits m.1 in
    let tv = version_takes size m.0 v.0 t0.rest_fits v.1 in
    let t1 = shape_takes size v.0.1 s.0.0 s.0.1 tv.rest_fits s.1 in
    let t2 = number_takes size w32 (2 ^ 32) wide32 s.0.1 n.0.0 n.0.1 t1.0.rest_fits n.1 in
    let t3 = entries_take size version s.0.0 None n.0.0 n.0.1 r.0 t2.0.rest_fits r.1 in
    let shape = s.0.0 in
    let es = r.0.0 in
    let ev1 = Takes-then m.0 (version_byte version ∷ []) v.0.1 (shape_text shape) s.0.1 tv t1.0 in
    let e01 = Takes-then bytes magic m.0 (version_byte version ∷ shape_text shape) s.0.1 t0 ev1 in
    let e02 = Takes-then bytes (head_text version shape) s.0.1 (to_be_bytes w32 n.0.0) n.0.1 e01 t2.0 in
    let e03 = Takes-then bytes (head_text version shape ++ to_be_bytes w32 n.0.0) n.0.1 (flat_map (entry_text version) es) r.0.1 e02 t3.0 in
    let whole : bytes ≡ text_of version shape es ++ r.0.1 =
    subst (λ (k : ℕ). bytes ≡ ((head_text version shape ++ to_be_bytes w32 k) ++ flat_map (entry_text version) es) ++ r.0.1) (sym t3.1)
    e03.parts in
    let made : Parts = (shape, es, r.0.1) in
    let said = subst (λ (y : Parts). (bytes ≡ text_of version y.0 y.1 ++ y.2) × IsShape y.0 × AreSaid version y.0 y.1) (ok_is made x r.2)
    (whole, t1.1, said_from_follow version shape es t3.2 t3.3) in
    (version, said.0, said.1, said.2)

-- a text that was written is read again, with nothing after it
text_again : (size : ℕ) (version : Version) (shape : PictureShape) (es : List Entry) → IsShape shape → AreSaid version shape es
    → text_fields size (text_of version shape es) ≡ Ok (shape, es, [])
unfolding text_fields
text_again size version shape es is said =
    let count = to_be_bytes w32 (length es) in
    let body = flat_map (entry_text version) es in
    let kept = said.entries in
    let few : length (map bare es) < 2 ^ 32 = few_entries shape (map bare es) is kept in
    let regrouped : text_of version shape es ≡ magic ++ (version_byte version ∷ (shape_text shape ++ (count ++ (body ++ [])))) =
    sym (append-nil (text_of version shape es))
    ∙ append_assoc (head_text version shape ++ count) body [] ∙ append_assoc (head_text version shape) count (body ++ [])
    ∙ append_assoc magic (version_byte version ∷ shape_text shape) (count ++ (body ++ [])) in
    ap (text_fields size) regrouped
    ∙ rw (
      magic_again size magic (version_byte version ∷ (shape_text shape ++ (count ++ (body ++ [])))),
      version_again size version (shape_text shape ++ (count ++ (body ++ []))),
      shape_again size shape (count ++ (body ++ [])) is,
      number_again size w32 (2 ^ 32) wide32 (length es) (body ++ []) (omega (arith, few, length-map es bare)),
      entries_read size version shape None es [] is
          (follow_from_sorted shape es (subst (IsStrictlySortedBy place_cmp) (bare_places es) kept.sorted) kept.each)
          (each_said version shape es kept.each said.said),
    ) refl

-- ---- partial pictures and their entries

-- the sources of entries that a text may say rise
rise_of : (version : Version) (es : List Entry) → AllByRecursion (λ e. AllByRecursion (IsSaid version) e.1) es → SourcesRise es
rise_of version [] h = tt
rise_of version (e ∷ es) h = (one e.1 h.0, rise_of version es h.1)
  where
    one : (ks : List Kept) → AllByRecursion (IsSaid version) ks → AllByRecursion (λ k. IsStrictlySortedBy nat_cmp k.1) ks
    one [] h = tt
    one (k ∷ ks) h = (h.0.0.sorted, one ks h.1)

said_again : (version : Version) (shape : PictureShape) (es : List Entry) → AreSaid version shape es → entries (partial_of shape es) ≡ es
said_again version shape es h = entries_again shape es h.entries (rise_of version es h.said)

-- the partial picture of what a text says has a text
partial_is : (version : Version) (shape : PictureShape) (es : List Entry) → IsShape shape → AreSaid version shape es
    → IsPartial (partial_of shape es)
partial_is version shape es is h =
    let bs = map bare es in
    let p = partial_of shape es in
    record {
      shape = is;
      fitting = λ c l x held. fits_kept shape bs c l x h.entries
          (sym (holds_kept shape bs p c l x h.entries (readings_are shape es)) ∙ held);
      countable = λ c l. subst (λ (xs : List (List ℕ)). length xs < 2 ^ 64)
          (sym (readings_kept shape bs p c l h.entries (readings_are shape es))) (countable_at shape bs (place c l) h.entries);
      marks_held = λ r s held. holds_reading shape es r ∙ any_of (kept_readings es) r s (sym (holds_mark shape es r s) ∙ held);
      sources_small = λ r s held. small_of r s (kept_readings es) (all_small es h.said) (sym (holds_mark shape es r s) ∙ held);
    }
  where
    any_of : (ks : List (Reading × List ℕ)) (r : Reading) (s : ℕ) → has_mark reading_cmp r s ks ≡ true
        → has_item reading_cmp r (λ _. true) ks ≡ true
    any_of [] r s e = absurd cc
    any_of (k ∷ ks) r s e = first (eq_by_cmp reading_cmp r k.0) (list_any (eq_by_cmp nat_cmp s) k.1) (has_mark reading_cmp r s ks)
        (has_item reading_cmp r (λ _. true) ks) (any_of ks r s) e
      where
        first : (a b c d : Bool) → (c ≡ true → d ≡ true) → ((a && b) || c) ≡ true → ((a && true) || d) ≡ true
        first true b c d f e = refl
        first false b c d f e = f e

    -- each source of a list of readings is small
    IsSmall : Reading × List ℕ → Type 0
    IsSmall k = AllByRecursion (λ s. s < 2 ^ 32) k.1

    all_then : (xs ys : List (Reading × List ℕ)) → AllByRecursion IsSmall xs → AllByRecursion IsSmall ys → AllByRecursion IsSmall (xs ++ ys)
    all_then [] ys a b = b
    all_then (x ∷ xs) ys a b = (a.0, all_then xs ys a.1 b)

    all_there : (at : LinePlace) (ks : List Kept) → AllByRecursion (IsSaid version) ks → AllByRecursion IsSmall (map (kept_at_place at) ks)
    all_there at [] h = tt
    all_there at (k ∷ ks) h = (h.0.0.small, all_there at ks h.1)

    all_small : (es : List Entry) → AllByRecursion (λ e. AllByRecursion (IsSaid version) e.1) es → AllByRecursion IsSmall (kept_readings es)
    all_small [] h = tt
    all_small (e ∷ es) h = subst (AllByRecursion IsSmall) (sym (flat_map-cons (λ (e : Entry). map (kept_at_place e.0) e.1) e es))
        (all_then (map (kept_at_place e.0) e.1) (kept_readings es) (all_there e.0 e.1 h.0) (all_small es h.1))

    small_of : (r : Reading) (s : ℕ) (ks : List (Reading × List ℕ)) → AllByRecursion IsSmall ks → has_mark reading_cmp r s ks ≡ true
        → s < 2 ^ 32
    small_of r s [] h e = absurd cc
    small_of r s (k ∷ ks) h e =
        either (s < 2 ^ 32) (eq_by_cmp reading_cmp r k.0 && list_any (eq_by_cmp nat_cmp s) k.1) (has_mark reading_cmp r s ks)
        (λ f. small_in k.1 s h.0 (and_parts (eq_by_cmp reading_cmp r k.0) (list_any (eq_by_cmp nat_cmp s) k.1) f).1) (small_of r s ks h.1) e

-- no numbers are in order
no_order : IsStrictlySortedBy nat_cmp []
unfolding IsStrictlySortedBy
no_order = tt

-- the entries of a partial picture are what a text that says all of it says
entries_said : (version : Version) (p : PartialPicture) → IsPartial p → SaysAll version p → AreSaid version p.shape (entries p)
entries_said version p is says = record {
  entries = subst (AreEntries p.shape) (sym (bare_entries_are p)) (entries_are p is);
  said = each (bare_entries p);
}
  where
    own : (r : Reading) → IsSourceList (sources_of reading_cmp p.marks r)
    own r = record {
      sorted = items_rise _;
      small = all_items nat_cmp_total (λ s. s < 2 ^ 32) _
          (λ s h. is.sources_small r s (sym (contains-sources_of reading_cmp p.marks r s) ∙ h));
    }

    none : (v : Version) → SaysAll v p → (r : Reading) → SaysSources v (sources_of reading_cmp p.marks r)
    none One e r = sources_again reading_cmp p.marks r [] no_order
        (λ s. ap (λ (m : set.OrderedSet (mark_cmp reading_cmp)). set.contains m (r, s)) e ∙ contains-empty (mark_cmp reading_cmp) (r, s))
    none Two e r = tt

    line : (at : LinePlace) (xs : List (List ℕ)) → AllByRecursion (IsSaid version) (map (λ x. (x, sources_at p at.component at.line x)) xs)
    line at [] = tt
    line at (x ∷ xs) = ((own (at_place at x), none version says (at_place at x)), line at xs)

    each : (bs : List BareEntry) → AllByRecursion (λ e. AllByRecursion (IsSaid version) e.1) (map (with_own_sources p) bs)
    each [] = tt
    each (b ∷ bs) = (line b.0 b.1, each bs)

-- a partial picture of which a text of version 1 is read has no source
says_all : (version : Version) (shape : PictureShape) (es : List Entry) → AreSaid version shape es → SaysAll version (partial_of shape es)
says_all Two shape es h = tt
says_all One shape es h = same_set marks_total marks_exact (partial_of shape es).marks set.empty
    (λ m. holds_mark shape es m.0 m.1 ∙ nothing (kept_readings es) (unsaid es h.said) m.0 m.1
    ∙ sym (contains-empty (mark_cmp reading_cmp) m))
  where
    IsUnsaid : Reading × List ℕ → Type 0
    IsUnsaid k = k.1 ≡ []

    all_then : (xs ys : List (Reading × List ℕ)) → AllByRecursion IsUnsaid xs → AllByRecursion IsUnsaid ys
        → AllByRecursion IsUnsaid (xs ++ ys)
    all_then [] ys a b = b
    all_then (x ∷ xs) ys a b = (a.0, all_then xs ys a.1 b)

    all_there : (at : LinePlace) (ks : List Kept) → AllByRecursion (IsSaid One) ks → AllByRecursion IsUnsaid (map (kept_at_place at) ks)
    all_there at [] h = tt
    all_there at (k ∷ ks) h = (h.0.1, all_there at ks h.1)

    unsaid : (es : List Entry) → AllByRecursion (λ e. AllByRecursion (IsSaid One) e.1) es → AllByRecursion IsUnsaid (kept_readings es)
    unsaid [] h = tt
    unsaid (e ∷ es) h = subst (AllByRecursion IsUnsaid) (sym (flat_map-cons (λ (e : Entry). map (kept_at_place e.0) e.1) e es))
        (all_then (map (kept_at_place e.0) e.1) (kept_readings es) (all_there e.0 e.1 h.0) (unsaid es h.1))

    nothing : (ks : List (Reading × List ℕ)) → AllByRecursion IsUnsaid ks → (r : Reading) (s : ℕ) → has_mark reading_cmp r s ks ≡ false
    nothing [] h r s = refl
    nothing (k ∷ ks) h r s = (λ i. (eq_by_cmp reading_cmp r k.0 && list_any (eq_by_cmp nat_cmp s) (h.0 i)) || nothing ks h.1 r s i)
        ∙ and_false (eq_by_cmp reading_cmp r k.0)
      where
        and_false : (b : Bool) → ((b && false) || false) ≡ false
        and_false true = refl
        and_false false = refl

-- ---- the laws

-- what is read has these bytes as a text
pub read_takes : (bytes : List ℕ) (p : PartialPicture) → IsBytes bytes → read_text bytes ≡ Ok p → IsTextOf bytes p
unfolding read_text
read_takes bytes p fits e =
    let f = bind_ok (text_fields (length bytes) bytes)
    (λ (x : Parts). cond (eqb (length x.2) 0) (Ok (partial_of x.0 x.1)) (Err (fault.Trailing (offset (length bytes) x.2)))) p e in
    let g = passed_ok (eqb (length f.0.2) 0) (fault.Trailing (offset (length bytes) f.0.2)) (partial_of f.0.0 f.0.1) p f.2 in
    let t = text_takes (length bytes) bytes f.0 fits f.1 in
    let version = t.0 in
    let nothing : f.0.2 ≡ [] = nil_from_length f.0.2 (eqb-true _ _ g.0) in
    let q = partial_of f.0.0 f.0.1 in
    let whole : bytes ≡ text_of version f.0.0 (entries q) =
    t.1 ∙ ap (λ (r : List ℕ). text_of version f.0.0 f.0.1 ++ r) nothing ∙ append-nil (text_of version f.0.0 f.0.1)
    ∙ ap (text_of version f.0.0) (sym (said_again version f.0.0 f.0.1 t.3)) in
    subst (IsTextOf bytes) g.1 (record {
      partial = partial_is version f.0.0 f.0.1 t.2 t.3;
      version = version;
      says_all = says_all version f.0.0 f.0.1 t.3;
      bytes_are =
          whole;
    })

-- each text is read
pub read_again : (bytes : List ℕ) (p : PartialPicture) → IsTextOf bytes p → read_text bytes ≡ Ok p
unfolding read_text
read_again bytes p is =
    let whole = text_of is.version p.shape (entries p) in
    ap read_text is.bytes_are
    ∙ rw (text_again (length whole) is.version p.shape (entries p) is.partial.shape (entries_said is.version p is.partial is.says_all))
    (ap (λ (q : PartialPicture). Ok q) (partial_again p is.partial.marks_held))

-- partial pictures that have one text are one
pub one_text : (bytes : List ℕ) (p q : PartialPicture) → IsTextOf bytes p → IsTextOf bytes q → p ≡ q
one_text bytes p q p_is q_is = ok_is p q (sym (read_again bytes p p_is) ∙ read_again bytes q q_is)

pub is_found : (bytes : List ℕ) (r : Result PartialPicture TextFault) → IsBytes bytes → GivesText (λ p. p) r (read_text bytes)
    → IfOk r (λ p. IsTextOf bytes p)
is_found bytes (Ok p) fits given = read_takes bytes p fits given
is_found bytes (Err e) fits given = tt
