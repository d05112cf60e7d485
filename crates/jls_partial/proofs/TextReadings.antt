-- Readings that are read are those that were written, and readings that were written are read again.
use Rattle.std.proofs.Common.{◌≡◌, ℕ, zero, suc, ◌+◌, map, ◌^◌, ◌<◌, ◌≤◌, Bool, true, false, cond, leb, eqb, List, [], ◌∷◌, ◌++◌, length}
use Rattle.std.proofs.Common.{Option, Some, None, Ok, Err, refl, sym, ap, subst, ◌∙◌, append_assoc, arith}
use Rattle.std.specs.Prelude.{nat_le, not}
use Rattle.std.specs.Int.{w16, to_be_bytes}
use Rattle.std.specs.Ordering.{is_lt}
use Rattle.std.specs.declared.cmp.Ordering.{Ordering}
use Rattle.std.specs.declared.cmp.Ordering.TheVariants.{Less, Equal, Greater}
use Rattle.std.specs.List.{list_any, flat_map, AllByRecursion}
use Rattle.std.specs.List.Sorted.{IsStrictlySortedBy}
use Rattle.std.proofs.lemmas.Bool.{leb-false, eqb-true, eq-eqb, or_parts, or_from}
use Rattle.std.proofs.lemmas.Cmp.{nat_list_cmp_total}
use Rattle.std.proofs.lemmas.List.Concat.{flat_map-cons}
use Rattle.jls_values.specs.Shape.{PictureShape}
use Rattle.jls_values.specs.SourceList.{IsSourceList}
use Rattle.jls_partial.specs.declared.version.Version.{Version}
use Rattle.jls_partial.specs.Packed.{Kept}
use Rattle.jls_partial.specs.declared.text_fault.TextFault.TheVariants as fault
use Rattle.jls_partial.specs.declared.insert_fault.InsertFault.{InsertFault}
use Rattle.jls_partial.specs.InsertFaults.{samples_fault}
use Rattle.jls_partial.specs.Text.{samples_text, sources_text, reading_text}
use Rattle.jls_partial.specs.TextReading.{◌>>=◌, offset, number_field, sample_field, samples_fields, is_above, reading_fields}
use Rattle.jls_partial.specs.TextReading.{own_sources_fields, kept_fields, readings_fields}
use Rattle.jls_partial.proofs.Entries.{S}
use Rattle.jls_partial.proofs.TextFields.{IsBytes, bind_ok, guard_ok, passed_ok, ok_is, Takes, Takes-then, wide16}
use Rattle.jls_partial.proofs.TextFields.{number_takes, number_again}
use Rattle.jls_partial.proofs.TextSources.{SaysSources, own_take, own_again}

-- ---- samples

-- a sample that is read has its bytes as its text, and is below the limit
pub sample_takes : (size limit : ℕ) (bytes : List ℕ) (x : ℕ × List ℕ) → IsBytes bytes → sample_field size limit bytes ≡ Ok x
    → Takes bytes (to_be_bytes w16 x.0) x.1 × (leb limit x.0 ≡ false)
unfolding sample_field
sample_takes size limit bytes x fits e =
    let a = bind_ok (number_field size w16 bytes) (λ s. cond (leb limit s.0) (Err (fault.Sample (offset size bytes))) (Ok s)) x e in
    let g = guard_ok (leb limit a.0.0) (fault.Sample (offset size bytes)) a.0 x a.2 in
    let t = number_takes size w16 (2 ^ 16) wide16 bytes a.0.0 a.0.1 fits a.1 in
    subst (λ (y : ℕ × List ℕ). Takes bytes (to_be_bytes w16 y.0) y.1 × (leb limit y.0 ≡ false)) g.1 (t.0, g.0)

-- a sample that was written is read again, whatever follows
pub sample_again : (size limit x : ℕ) (rest : List ℕ) → limit ≤ 2 ^ 16 → leb limit x ≡ false
    → sample_field size limit (to_be_bytes w16 x ++ rest) ≡ Ok (x, rest)
unfolding sample_field
sample_again size limit x rest le h =
    let lt : x < limit = leb-false limit x h in
    rw (number_again size w16 (2 ^ 16) wide16 x rest (omega (arith, lt, le)), h) refl

-- samples that are read have their bytes as their text; they are as many as were asked for, and below the limit
pub samples_take : (size limit n : ℕ) (bytes : List ℕ) (x : List ℕ × List ℕ) → IsBytes bytes → samples_fields size limit n bytes ≡ Ok x
    → Takes bytes (samples_text x.0) x.1 × (length x.0 ≡ n) × (list_any (λ s. nat_le limit s) x.0 ≡ false)
unfolding samples_fields
samples_take size limit zero bytes x fits e =
    subst (λ (y : List ℕ × List ℕ). Takes bytes (samples_text y.0) y.1 × (length y.0 ≡ 0) × (list_any (λ s. nat_le limit s) y.0 ≡ false))
    (ok_is ([], bytes) x e) (record { parts = refl; rest_fits = fits }, refl, refl)
samples_take size limit (suc n) bytes x fits e =
    let a = bind_ok (sample_field size limit bytes)
    (λ first. samples_fields size limit n first.1 >>= λ others. Ok (first.0 ∷ others.0, others.1)) x e in
    let b = bind_ok (samples_fields size limit n a.0.1) (λ others. Ok (a.0.0 ∷ others.0, others.1)) x a.2 in
    let first = sample_takes size limit bytes a.0 fits a.1 in
    let second = samples_take size limit n a.0.1 b.0 first.0.rest_fits b.1 in
    let both = Takes-then bytes (to_be_bytes w16 a.0.0) a.0.1 (samples_text b.0.0) b.0.1 first.0 second.0 in
    let made : List ℕ × List ℕ = (a.0.0 ∷ b.0.0, b.0.1) in
    subst (λ (y : List ℕ × List ℕ). Takes bytes (samples_text y.0) y.1 × (length y.0 ≡ suc n)
    × (list_any (λ s. nat_le limit s) y.0 ≡ false)) (ok_is made x b.2) (
      subst (λ (t : List ℕ). Takes bytes t b.0.1) (sym (flat_map-cons (to_be_bytes w16) a.0.0 b.0.0)) both,
      ap suc second.1,
      or_from
          (leb limit a.0.0) _ first.1 second.2,
    )

-- samples that were written are read again, whatever follows
pub samples_again : (size limit : ℕ) (xs rest : List ℕ) → limit ≤ 2 ^ 16 → list_any (λ s. nat_le limit s) xs ≡ false
    → samples_fields size limit (length xs) (samples_text xs ++ rest) ≡ Ok (xs, rest)
unfolding samples_fields
samples_again size limit [] rest le h = refl
samples_again size limit (x ∷ xs) rest le h =
    let p = or_parts (leb limit x) (list_any (λ s. nat_le limit s) xs) h in
    let regrouped : samples_text (x ∷ xs) ++ rest ≡ to_be_bytes w16 x ++ (samples_text xs ++ rest) =
    ap (λ (t : List ℕ). t ++ rest) (flat_map-cons (to_be_bytes w16) x xs) ∙ append_assoc (to_be_bytes w16 x) (samples_text xs) rest in
    ap (samples_fields size limit (suc (length xs))) regrouped
    ∙ rw (sample_again size limit x (samples_text xs ++ rest) le p.0, samples_again size limit xs rest le p.1) refl

-- ---- a reading

fits_from : (precision width : ℕ) (xs : List ℕ) → length xs ≡ width → list_any (λ x. nat_le (2 ^ precision) x) xs ≡ false
    → samples_fault precision width xs ≡ None
fits_from precision width xs len small = rw (eq-eqb (length xs) width len, small) refl

-- samples without a fault are as many as the width, and none has too many bits
fits_parts : (precision width : ℕ) (xs : List ℕ) → samples_fault precision width xs ≡ None
    → (length xs ≡ width) × (list_any (λ x. nat_le (2 ^ precision) x) xs ≡ false)
fits_parts precision width xs e =
    let p = wide (eqb (length xs) width) _ _ e in
    let q = small (list_any (λ x. nat_le (2 ^ precision) x) xs) _ p.1 in
    (eqb-true (length xs) width p.0, q)
  where
    wide : (b : Bool) (f : InsertFault) (o : Option InsertFault) → cond (not b) (Some f) o ≡ None → (b ≡ true) × (o ≡ None)
    wide true f o e = (refl, e)
    wide false f o e = absurd cc

    small : (b : Bool) (f : InsertFault) → cond b (Some f) None ≡ None → b ≡ false
    small true f e = absurd cc
    small false f e = refl

-- a reading that is read has its bytes as its text, is above the one before, and fits the shape
pub reading_takes : (size : ℕ) (shape : PictureShape) (before : Option (List ℕ)) (bytes : List ℕ) (x : List ℕ × List ℕ) → IsBytes bytes
    → reading_fields size shape before bytes ≡ Ok x
    → Takes bytes (samples_text x.0) x.1 × (is_above before x.0 ≡ true) × (samples_fault shape.precision shape.width x.0 ≡ None)
unfolding reading_fields
reading_takes size shape before bytes x fits e =
    let a = bind_ok (samples_fields size (2 ^ shape.precision) shape.width bytes)
    (λ s. cond (is_above before s.0) (Ok s) (Err (fault.Order (offset size bytes)))) x e in
    let g = passed_ok (is_above before a.0.0) (fault.Order (offset size bytes)) a.0 x a.2 in
    let t = samples_take size (2 ^ shape.precision) shape.width bytes a.0 fits a.1 in
    subst (λ (y : List ℕ × List ℕ). Takes bytes (samples_text y.0) y.1 × (is_above before y.0 ≡ true)
    × (samples_fault shape.precision shape.width y.0 ≡ None)) g.1
    (t.0, g.0, fits_from shape.precision shape.width a.0.0 t.1 t.2)

-- samples that are read are as many as were asked for, and below the limit
samples_fit : (size limit n : ℕ) (bytes : List ℕ) (x : List ℕ × List ℕ) → samples_fields size limit n bytes ≡ Ok x
    → (length x.0 ≡ n) × (list_any (λ s. nat_le limit s) x.0 ≡ false)
unfolding samples_fields sample_field
samples_fit size limit zero bytes x e =
    subst (λ (y : List ℕ × List ℕ). (length y.0 ≡ 0) × (list_any (λ s. nat_le limit s) y.0 ≡ false)) (ok_is ([], bytes) x e) (refl, refl)
samples_fit size limit (suc n) bytes x e =
    let a = bind_ok (sample_field size limit bytes)
    (λ first. samples_fields size limit n first.1 >>= λ others. Ok (first.0 ∷ others.0, others.1)) x e in
    let b = bind_ok (samples_fields size limit n a.0.1) (λ others. Ok (a.0.0 ∷ others.0, others.1)) x a.2 in
    let s = bind_ok (number_field size w16 bytes) (λ s. cond (leb limit s.0) (Err (fault.Sample (offset size bytes))) (Ok s)) a.0 a.1 in
    let g = guard_ok (leb limit s.0.0) (fault.Sample (offset size bytes)) s.0 a.0 s.2 in
    let first : leb limit a.0.0 ≡ false = ap (λ (y : ℕ × List ℕ). leb limit y.0) (sym g.1) ∙ g.0 in
    let second = samples_fit size limit n a.0.1 b.0 b.1 in
    let made : List ℕ × List ℕ = (a.0.0 ∷ b.0.0, b.0.1) in
    subst (λ (y : List ℕ × List ℕ). (length y.0 ≡ suc n) × (list_any (λ s. nat_le limit s) y.0 ≡ false)) (ok_is made x b.2)
    (ap suc second.0, or_from (leb limit a.0.0) _ first second.1)

-- a reading that is read fits the shape
pub reading_fits : (size : ℕ) (shape : PictureShape) (before : Option (List ℕ)) (bytes : List ℕ) (x : List ℕ × List ℕ)
    → reading_fields size shape before bytes ≡ Ok x → samples_fault shape.precision shape.width x.0 ≡ None
unfolding reading_fields
reading_fits size shape before bytes x e =
    let a = bind_ok (samples_fields size (2 ^ shape.precision) shape.width bytes)
    (λ s. cond (is_above before s.0) (Ok s) (Err (fault.Order (offset size bytes)))) x e in
    let g = passed_ok (is_above before a.0.0) (fault.Order (offset size bytes)) a.0 x a.2 in
    let t = samples_fit size (2 ^ shape.precision) shape.width bytes a.0 a.1 in
    subst (λ (y : List ℕ × List ℕ). samples_fault shape.precision shape.width y.0 ≡ None) g.1
    (fits_from shape.precision shape.width a.0.0 t.0 t.1)

-- a reading that was written is read again, whatever follows
pub reading_again : (size : ℕ) (shape : PictureShape) (before : Option (List ℕ)) (xs rest : List ℕ) → 2 ^ shape.precision ≤ 2 ^ 16
    → is_above before xs ≡ true → samples_fault shape.precision shape.width xs ≡ None
    → reading_fields size shape before (samples_text xs ++ rest) ≡ Ok (xs, rest)
unfolding reading_fields
reading_again size shape before xs rest le above fit =
    let p = fits_parts shape.precision shape.width xs fit in
    let again : samples_fields size (2 ^ shape.precision) shape.width (samples_text xs ++ rest) ≡ Ok (xs, rest) =
    subst (λ (n : ℕ). samples_fields size (2 ^ shape.precision) n (samples_text xs ++ rest) ≡ Ok (xs, rest)) p.0
    (samples_again size (2 ^ shape.precision) xs rest le p.1) in
    rw (again, above) refl

-- ---- readings of one line

-- each is above the one before
abbrev pub Rise : Option (List ℕ) → List (List ℕ) → Type 0
Rise before [] = Unit {0}
Rise before (x ∷ xs) = (is_above before x ≡ true) × Rise (Some x) xs

pub less_from_lt : (r : Ordering) → is_lt r ≡ true → r ≡ Less
less_from_lt Less e = refl
less_from_lt Equal e = absurd cc
less_from_lt Greater e = absurd cc

further : (b x : List ℕ) (xs : List (List ℕ)) → S b x ≡ Less → AllByRecursion (λ y. S x y ≡ Less) xs → AllByRecursion (λ y. S b y ≡ Less) xs
further b x [] e h = tt
further b x (y ∷ xs) e h = (nat_list_cmp_total.trans b x y e h.0, further b x xs e h.1)

-- samples of readings that rise above one are above it, and rise
sorted_above : (b : List ℕ) (xs : List (List ℕ)) → Rise (Some b) xs → AllByRecursion (λ y. S b y ≡ Less) xs × IsStrictlySortedBy S xs
unfolding IsStrictlySortedBy
sorted_above b [] h = (tt, tt)
sorted_above b (x ∷ xs) h =
    let others = sorted_above x xs h.1 in
    let first : S b x ≡ Less = less_from_lt (S b x) h.0 in
    ((first, further b x xs first others.0), others)

pub sorted_from_rise : (xs : List (List ℕ)) → Rise None xs → IsStrictlySortedBy S xs
unfolding IsStrictlySortedBy
sorted_from_rise [] h = tt
sorted_from_rise (x ∷ xs) h = sorted_above x xs h.1

rise_above : (b : List ℕ) (xs : List (List ℕ)) → AllByRecursion (λ y. S b y ≡ Less) xs → IsStrictlySortedBy S xs → Rise (Some b) xs
unfolding IsStrictlySortedBy
rise_above b [] h s = tt
rise_above b (x ∷ xs) h s = (ap is_lt h.0, rise_above x xs s.0 s.1)

-- readings whose samples rise, rise as a text says them
pub rise_from_sorted : (xs : List (List ℕ)) → IsStrictlySortedBy S xs → Rise None xs
unfolding IsStrictlySortedBy
rise_from_sorted [] s = tt
rise_from_sorted (x ∷ xs) s = (refl, rise_above x xs s.0 s.1)

-- ---- a reading with its sources

-- what a text of a version says of the sources of a reading
abbrev pub IsSaid : Version → Kept → Type 0
IsSaid version k = IsSourceList k.1 × SaysSources version k.1

-- a reading with its sources that is read has its bytes as its text, is above the one before, and fits the shape
kept_takes : (size : ℕ) (version : Version) (shape : PictureShape) (before : Option (List ℕ)) (bytes : List ℕ) (x : Kept × List ℕ)
    → IsBytes bytes → kept_fields size version shape before bytes ≡ Ok x
    → Takes bytes (reading_text version x.0) x.1 × (is_above before x.0.0 ≡ true) × (samples_fault shape.precision shape.width x.0.0 ≡ None)
    × IsSaid version x.0
unfolding kept_fields
kept_takes size version shape before bytes x fits e =
    let a = bind_ok (reading_fields size shape before bytes)
    (λ samples. own_sources_fields size version samples.1 >>= λ sources. Ok ((samples.0, sources.0), sources.1)) x e in
    let b = bind_ok (own_sources_fields size version a.0.1) (λ sources. Ok ((a.0.0, sources.0), sources.1)) x a.2 in
    let first = reading_takes size shape before bytes a.0 fits a.1 in
    let second = own_take size version a.0.1 b.0 first.0.rest_fits b.1 in
    let both = Takes-then bytes (samples_text a.0.0) a.0.1 (sources_text version b.0.0) b.0.1 first.0 second.0 in
    let made : Kept × List ℕ = ((a.0.0, b.0.0), b.0.1) in
    subst (λ (y : Kept × List ℕ). Takes bytes (reading_text version y.0) y.1 × (is_above before y.0.0 ≡ true)
    × (samples_fault shape.precision shape.width y.0.0 ≡ None) × IsSaid version y.0) (ok_is made x b.2)
    (both, first.1, first.2, (second.1, second.2))

-- a reading with its sources that was written is read again, whatever follows
kept_again : (size : ℕ) (version : Version) (shape : PictureShape) (before : Option (List ℕ)) (k : Kept) (rest : List ℕ)
    → 2 ^ shape.precision ≤ 2 ^ 16 → is_above before k.0 ≡ true → samples_fault shape.precision shape.width k.0 ≡ None → IsSaid version k
    → kept_fields size version shape before (reading_text version k ++ rest) ≡ Ok (k, rest)
unfolding kept_fields
kept_again size version shape before k rest le above fit said =
    ap (kept_fields size version shape before) (append_assoc (samples_text k.0) (sources_text version k.1) rest)
    ∙ rw (
      reading_again size shape before k.0 (sources_text version k.1 ++ rest) le above fit,
      own_again size version k.1 rest said.0
          said.1,
    ) refl

-- ---- all readings of a line

abbrev Samples : List Kept → List (List ℕ)
Samples ks = map (λ k. k.0) ks

-- readings that are read have their bytes as their text, rise, and fit the shape
pub readings_take : (size : ℕ) (version : Version) (shape : PictureShape) (before : Option (List ℕ)) (n : ℕ) (bytes : List ℕ)
    (x : List Kept × List ℕ)
    → IsBytes bytes → readings_fields size version shape before n bytes ≡ Ok x
    → Takes bytes (flat_map (reading_text version) x.0) x.1 × (length x.0 ≡ n) × Rise before (Samples x.0)
    × AllByRecursion (λ s. samples_fault shape.precision shape.width s ≡ None) (Samples x.0) × AllByRecursion (IsSaid version) x.0
unfolding readings_fields
readings_take size version shape before zero bytes x fits e =
    subst (λ (y : List Kept × List ℕ). Takes bytes (flat_map (reading_text version) y.0) y.1 × (length y.0 ≡ 0) × Rise before (Samples y.0)
    × AllByRecursion (λ s. samples_fault shape.precision shape.width s ≡ None) (Samples y.0) × AllByRecursion (IsSaid version) y.0)
    (ok_is ([], bytes) x e)
    (record { parts = refl; rest_fits = fits }, refl, tt, tt, tt)
readings_take size version shape before (suc n) bytes x fits e =
    let a = bind_ok (kept_fields size version shape before bytes)
    (λ first. readings_fields size version shape (Some first.0.0) n first.1 >>= λ others. Ok (first.0 ∷ others.0, others.1)) x e in
    let b = bind_ok (readings_fields size version shape (Some a.0.0.0) n a.0.1) (λ others. Ok (a.0.0 ∷ others.0, others.1)) x a.2 in
    let first = kept_takes size version shape before bytes a.0 fits a.1 in
    let second = readings_take size version shape (Some a.0.0.0) n a.0.1 b.0 first.0.rest_fits b.1 in
    let both = Takes-then bytes (reading_text version a.0.0) a.0.1 (flat_map (reading_text version) b.0.0) b.0.1 first.0 second.0 in
    let made : List Kept × List ℕ = (a.0.0 ∷ b.0.0, b.0.1) in
    subst (λ (y : List Kept × List ℕ). Takes bytes (flat_map (reading_text version) y.0) y.1 × (length y.0 ≡ suc n)
    × Rise before (Samples y.0) × AllByRecursion (λ s. samples_fault shape.precision shape.width s ≡ None) (Samples y.0)
    × AllByRecursion (IsSaid version) y.0) (ok_is made x b.2) (
      subst (λ (t : List ℕ). Takes bytes t b.0.1) (sym (flat_map-cons (reading_text version) a.0.0 b.0.0)) both,
      ap suc second.1,
      (first.1, second.2),
      (first.2, second.3),
      (first.3, second.4),
    )

-- readings that were written are read again, whatever follows
pub readings_again : (size : ℕ) (version : Version) (shape : PictureShape) (before : Option (List ℕ)) (ks : List Kept) (rest : List ℕ)
    → 2 ^ shape.precision ≤ 2 ^ 16 → Rise before (Samples ks)
    → AllByRecursion (λ s. samples_fault shape.precision shape.width s ≡ None) (Samples ks) → AllByRecursion (IsSaid version) ks
    → readings_fields size version shape before (length ks) (flat_map (reading_text version) ks ++ rest) ≡ Ok (ks, rest)
unfolding readings_fields
readings_again size version shape before [] rest le rise fit said = refl
readings_again size version shape before (k ∷ ks) rest le rise fit said =
    let regrouped : flat_map (reading_text version) (k ∷ ks) ++ rest
    ≡ reading_text version k ++ (flat_map (reading_text version) ks ++ rest) =
    ap (λ (t : List ℕ). t ++ rest) (flat_map-cons (reading_text version) k ks)
    ∙ append_assoc (reading_text version k) (flat_map (reading_text version) ks) rest in
    ap (readings_fields size version shape before (suc (length ks))) regrouped
    ∙ rw (
      kept_again size version shape before k (flat_map (reading_text version) ks ++ rest) le rise.0 fit.0 said.0,
      readings_again size
          version shape (Some k.0) ks rest le rise.1 fit.1 said.1,
    ) refl
