-- Reading one thing after the other, as a loop does.
use Rattle.std.proofs.Common.{◌≡◌, ℕ, suc, ◌-◌, ◌+◌, ◌≤◌, ◌<◌, List, [], ◌∷◌, ◌++◌, map, length, take, drop, cond, leb, ltb, Option, Some}
use Rattle.std.proofs.Common.{None, Result, Ok, Err, refl, sym, ap, subst, ◌∙◌, append_assoc, arith}
use Rattle.std.proofs.lemmas.Bool.{eq-eqb, ltb-false, ne_eqb}
use Rattle.std.proofs.lemmas.List.{append-nil, length-drop}
use Rattle.std.specs.Int.{w16, from_be_bytes}
use Rattle.std.proofs.lemmas.List.Concat.{flat_map-cons}
use Rattle.jls_values.specs.Shape.{PictureShape}
use Rattle.jls_partial.specs.declared.line_place.LinePlace.{LinePlace}
use Rattle.jls_partial.specs.declared.text_fault.TextFault.{TextFault}
use Rattle.jls_partial.specs.declared.text_fault.TextFault.TheVariants as fault
use Rattle.jls_partial.specs.declared.version.Version.{Version}
use Rattle.jls_partial.specs.Entries.{Entry, kept_at_place, kept_readings}
use Rattle.jls_partial.specs.InsertFaults.{samples_fault}
use Rattle.jls_partial.specs.Packed.{Kept}
use Rattle.jls_partial.specs.Partial.{PartialPicture, with_all}
use Rattle.jls_partial.specs.Reading.{Reading}
use Rattle.jls_partial.specs.TextInto.{with_readings, with_entry, with_entries}
use Rattle.jls_partial.specs.TextReading.{◌>>=◌, Fails, offset, byte_field, number_field, magic_field, sample_field, samples_fields}
use Rattle.jls_partial.specs.TextReading.{source_field, sources_fields, reading_fields, own_sources_fields, kept_fields, readings_fields}
use Rattle.jls_partial.specs.TextReading.{entry_fields, entries_fields}
use Rattle.jls_partial.proofs.Growth.{with_all-append}
use Rattle.jls_partial.proofs.TextFields.{bind_ok, guard_ok, ok_is, magic_then}
use Rattle.jls_partial.proofs.TextReadings.{reading_fits}

-- no fault, or one that reading gives: a fault of a later step is that of the whole
pub fails_then : {A B : Type 0} (e : TextFault) (read : Result A TextFault) (f : A → Result B TextFault) → Fails e read
    → Fails e (read >>= f)
fails_then fault.OutOfMemory read f h = tt
fails_then (fault.Magic n) read f h = ap (λ r. r >>= f) h
fails_then (fault.BadShape n) read f h = ap (λ r. r >>= f) h
fails_then (fault.Truncated n) read f h = ap (λ r. r >>= f) h
fails_then (fault.Place n) read f h = ap (λ r. r >>= f) h
fails_then (fault.Count n) read f h = ap (λ r. r >>= f) h
fails_then (fault.Order n) read f h = ap (λ r. r >>= f) h
fails_then (fault.Sample n) read f h = ap (λ r. r >>= f) h
fails_then (fault.Trailing n) read f h = ap (λ r. r >>= f) h

-- of a loop that counts up to `count`: what a step leaves, where the next thing fails, and where none is left
next : {B : Type 0} (count i : ℕ) (before after : ℕ → B) (total : B) → i < count → ((n : ℕ) → before (suc n) ≡ after n)
    → before (count - i) ≡ total → after (count - (i + 1)) ≡ total
next count i before after total lt step so_far =
    let k : suc (count - (i + 1)) ≡ count - i = omega arith in
    sym (step (count - (i + 1))) ∙ ap before k ∙ so_far

-- where the next of several things can't be read, neither can all of them
next_fails : {A B C : Type 0} (e : TextFault) (count i : ℕ) (first : Result A TextFault) (rest : ℕ → A → Result B TextFault)
    (g : B → Result C TextFault) (fields : ℕ → Result B TextFault) (total : Result C TextFault)
    → ((n : ℕ) → fields (suc n) ≡ (first >>= rest n)) → i < count → Fails e first → (fields (count - i) >>= g) ≡ total → Fails e total
next_fails e count i first rest g fields total step lt h so_far =
    let n = count - (i + 1) in
    let k : suc n ≡ count - i = omega arith in
    subst (Fails e) (ap (λ r. r >>= g) (sym (step n) ∙ ap fields k) ∙ so_far)
    (fails_then e (first >>= rest n) g (fails_then e first (rest n) h))

none_left : {B : Type 0} (count i : ℕ) (before : ℕ → B) (total : B) → count ≤ i → before (count - i) ≡ total → total ≡ before 0
none_left count i before total le so_far = let k : count - i ≡ 0 = omega arith in sym so_far ∙ ap before k

-- ---- the magic

-- after one byte of the magic, reading the rest gives what reading all gives
pub magic_goes_on : (size : ℕ) (wanted : List ℕ) (want : ℕ) (others bytes : List ℕ) (byte : ℕ) (after : List ℕ)
    (total : Result (List ℕ) TextFault)
    → wanted ≡ want ∷ others → byte_field size bytes ≡ Ok (byte, after) → byte ≡ want
    → magic_field size wanted bytes ≡ total → magic_field size others after ≡ total
unfolding magic_field
magic_goes_on size wanted want others bytes byte after total is h same so_far =
    let one : magic_field size (want ∷ others) bytes ≡ magic_field size others after = rw (h, eq-eqb byte want same) refl in
    sym one ∙ ap (λ (w : List ℕ). magic_field size w bytes) (sym is) ∙ so_far

-- at the first byte that differs, reading the magic fails there
pub magic_differs : (size : ℕ) (wanted : List ℕ) (want : ℕ) (others bytes : List ℕ) (byte : ℕ) (after : List ℕ)
    (total : Result (List ℕ) TextFault)
    → wanted ≡ want ∷ others → byte_field size bytes ≡ Ok (byte, after) → (byte ≡ want → ⊥)
    → magic_field size wanted bytes ≡ total → total ≡ Err (fault.Magic (offset size bytes))
unfolding magic_field
magic_differs size wanted want others bytes byte after total is h differs so_far =
    let one : magic_field size (want ∷ others) bytes ≡ Err (fault.Magic (offset size bytes)) = rw (h, ne_eqb byte want differs) refl in
    sym so_far ∙ ap (λ (w : List ℕ). magic_field size w bytes) is ∙ one

-- where the next byte can't be read, neither can the magic
pub magic_ends : (e : TextFault) (size : ℕ) (wanted : List ℕ) (want : ℕ) (others bytes : List ℕ) (total : Result (List ℕ) TextFault)
    → wanted ≡ want ∷ others → Fails e (byte_field size bytes)
    → magic_field size wanted bytes ≡ total → Fails e total
unfolding magic_field
magic_ends e size wanted want others bytes total is h so_far =
    let here : Fails e (magic_field size (want ∷ others) bytes) =
    fails_then e (byte_field size bytes) (magic_then size want others bytes) h in
    subst (Fails e) (ap (λ (w : List ℕ). magic_field size w bytes) (sym is) ∙ so_far) here

-- where no byte of the magic is left, what is left of the text is the answer
pub magic_done : (size : ℕ) (wanted bytes : List ℕ) (total : Result (List ℕ) TextFault) → wanted ≡ []
    → magic_field size wanted bytes ≡ total → total ≡ Ok bytes
unfolding magic_field
magic_done size wanted bytes total is so_far = sym so_far ∙ ap (λ (w : List ℕ). magic_field size w bytes) is

-- ---- samples

-- the samples that were read before, and those that are still read
abbrev pub after_samples : List ℕ → Result (List ℕ × List ℕ) TextFault → Result (List ℕ × List ℕ) TextFault
after_samples prefix read = read >>= λ x. Ok (prefix ++ x.0, x.1)

regroup_samples : (prefix : List ℕ) (x : ℕ) (read : Result (List ℕ × List ℕ) TextFault)
    → after_samples prefix (read >>= λ y. Ok (x ∷ y.0, y.1)) ≡ after_samples (prefix ++ x ∷ []) read
regroup_samples prefix x (Ok y) = ap (λ (xs : List ℕ). Ok (xs, y.1)) (sym (append_assoc prefix (x ∷ []) y.0))
regroup_samples prefix x (Err f) = refl

-- a sample that is read has taken two bytes
pub sample_len : (size limit : ℕ) (bytes : List ℕ) (x : ℕ) (after : List ℕ) → sample_field size limit bytes ≡ Ok (x, after)
    → length bytes ≡ length after + 2
unfolding sample_field
sample_len size limit bytes x after e =
    let a = bind_ok (number_field size w16 bytes) (λ s. cond (leb limit s.0) (Err (fault.Sample (offset size bytes))) (Ok s)) (x, after)
    e in
    let g = guard_ok (ltb (length bytes) 2) (fault.Truncated size) (from_be_bytes w16 (take 2 bytes), drop 2 bytes) a.0 a.1 in
    let h = guard_ok (leb limit a.0.0) (fault.Sample (offset size bytes)) a.0 (x, after) a.2 in
    let long : 2 ≤ length bytes = ltb-false _ _ g.0 in
    let rest : length (drop 2 bytes) ≡ length after = ap (λ (p : ℕ × List ℕ). length p.1) (g.1 ∙ h.1) in
    omega (arith, long, rest, length-drop 2 bytes)

-- after one sample more, reading those that are left gives what reading all gives
pub samples_go_on : (size limit : ℕ) (prefix : List ℕ) (count i : ℕ) (bytes : List ℕ) (x : ℕ) (after : List ℕ)
    (total : Result (List ℕ × List ℕ) TextFault)
    → i < count → sample_field size limit bytes ≡ Ok (x, after)
    → after_samples prefix (samples_fields size limit (count - i) bytes) ≡ total
    → after_samples (prefix ++ x ∷ []) (samples_fields size limit (count - (i + 1)) after) ≡ total
unfolding samples_fields
samples_go_on size limit prefix count i bytes x after total lt h so_far =
    next count i (λ n. after_samples prefix (samples_fields size limit n bytes))
    (λ n. after_samples (prefix ++ x ∷ []) (samples_fields size limit n after)) total lt
    (λ n. rw h (regroup_samples prefix x (samples_fields size limit n after))) so_far

-- where the next sample can't be read, reading all fails so
pub samples_end : (e : TextFault) (size limit : ℕ) (prefix : List ℕ) (count i : ℕ) (bytes : List ℕ)
    (total : Result (List ℕ × List ℕ) TextFault)
    → i < count → Fails e (sample_field size limit bytes)
    → after_samples prefix (samples_fields size limit (count - i) bytes) ≡ total → Fails e total
unfolding samples_fields
samples_end e size limit prefix count i bytes total lt h so_far =
    next_fails e count i (sample_field size limit bytes)
    (λ n first. samples_fields size limit n first.1 >>= λ others. Ok (first.0 ∷ others.0, others.1)) (λ x. Ok (prefix ++ x.0, x.1))
    (λ n. samples_fields size limit n bytes) total (λ n. refl) lt h so_far

-- where no sample is left, those that were read are all
pub samples_done : (size limit : ℕ) (prefix : List ℕ) (count i : ℕ) (bytes : List ℕ) (total : Result (List ℕ × List ℕ) TextFault) → count
    ≤ i
    → after_samples prefix (samples_fields size limit (count - i) bytes) ≡ total → total ≡ Ok (prefix, bytes)
unfolding samples_fields
samples_done size limit prefix count i bytes total le so_far =
    none_left count i (λ n. after_samples prefix (samples_fields size limit n bytes)) total le so_far
    ∙ ap (λ (xs : List ℕ). Ok (xs, bytes)) (append-nil prefix)

-- ---- sources

-- after one source more, reading those that are left gives what reading all gives
pub sources_go_on : (size : ℕ) (before : Option ℕ) (prefix : List ℕ) (count i : ℕ) (bytes : List ℕ) (x : ℕ) (after : List ℕ)
    (total : Result (List ℕ × List ℕ) TextFault)
    → i < count → source_field size before bytes ≡ Ok (x, after)
    → after_samples prefix (sources_fields size before (count - i) bytes) ≡ total
    → after_samples (prefix ++ x ∷ []) (sources_fields size (Some x) (count - (i + 1)) after) ≡ total
unfolding sources_fields
sources_go_on size before prefix count i bytes x after total lt h so_far =
    next count i (λ n. after_samples prefix (sources_fields size before n bytes))
    (λ n. after_samples (prefix ++ x ∷ []) (sources_fields size (Some x) n after)) total lt
    (λ n. rw h (regroup_samples prefix x (sources_fields size (Some x) n after))) so_far

-- where the next source can't be read, reading all fails so
pub sources_end : (e : TextFault) (size : ℕ) (before : Option ℕ) (prefix : List ℕ) (count i : ℕ) (bytes : List ℕ)
    (total : Result (List ℕ × List ℕ) TextFault)
    → i < count → Fails e (source_field size before bytes)
    → after_samples prefix (sources_fields size before (count - i) bytes) ≡ total → Fails e total
unfolding sources_fields
sources_end e size before prefix count i bytes total lt h so_far =
    next_fails e count i (source_field size before bytes)
    (λ n first. sources_fields size (Some first.0) n first.1 >>= λ others. Ok (first.0 ∷ others.0, others.1))
    (λ x. Ok (prefix ++ x.0, x.1)) (λ n. sources_fields size before n bytes) total (λ n. refl) lt h so_far

-- where no source is left, those that were read are all
pub sources_done : (size : ℕ) (before : Option ℕ) (prefix : List ℕ) (count i : ℕ) (bytes : List ℕ)
    (total : Result (List ℕ × List ℕ) TextFault)
    → count ≤ i → after_samples prefix (sources_fields size before (count - i) bytes) ≡ total → total ≡ Ok (prefix, bytes)
unfolding sources_fields
sources_done size before prefix count i bytes total le so_far =
    none_left count i (λ n. after_samples prefix (sources_fields size before n bytes)) total le so_far
    ∙ ap (λ (xs : List ℕ). Ok (xs, bytes)) (append-nil prefix)

-- ---- readings of one line

-- a reading that is read fits the shape
pub kept_fits : (size : ℕ) (version : Version) (shape : PictureShape) (before : Option (List ℕ)) (bytes : List ℕ) (x : Kept × List ℕ)
    → kept_fields size version shape before bytes ≡ Ok x → samples_fault shape.precision shape.width x.0.0 ≡ None
unfolding kept_fields
kept_fits size version shape before bytes x e =
    let a = bind_ok (reading_fields size shape before bytes)
    (λ samples. own_sources_fields size version samples.1 >>= λ sources. Ok ((samples.0, sources.0), sources.1)) x e in
    let b = bind_ok (own_sources_fields size version a.0.1) (λ sources. Ok ((a.0.0, sources.0), sources.1)) x a.2 in
    let made : Kept × List ℕ = ((a.0.0, b.0.0), b.0.1) in
    subst (λ (y : Kept × List ℕ). samples_fault shape.precision shape.width y.0.0 ≡ None) (ok_is made x b.2)
    (reading_fits size shape before bytes a.0 a.1)

-- with one reading more
abbrev pub with_kept : PartialPicture → LinePlace → Kept → PartialPicture
with_kept p at k = with_all p (kept_at_place at k ∷ [])

-- taking one reading, and then the others, is taking all of them
regroup_readings : (p : PartialPicture) (at : LinePlace) (k : Kept) (read : Result (List Kept × List ℕ) TextFault)
    → with_readings p at (read >>= λ y. Ok (k ∷ y.0, y.1)) ≡ with_readings (with_kept p at k) at read
regroup_readings p at k (Ok y) =
    ap (λ (q : PartialPicture). Ok (q, y.1)) (with_all-append p (kept_at_place at k ∷ []) (map (kept_at_place at) y.0))
regroup_readings p at k (Err f) = refl

-- after one reading more, reading those that are left gives what reading all gives
pub readings_go_on : (size : ℕ) (version : Version) (shape : PictureShape) (p : PartialPicture) (at : LinePlace) (before : Option (List ℕ))
    (count i : ℕ) (bytes : List ℕ) (k : Kept) (after : List ℕ) (total : Result (PartialPicture × List ℕ) TextFault)
    → i < count
    → kept_fields size version shape before bytes ≡ Ok (k, after)
    → with_readings p at (readings_fields size version shape before (count - i) bytes) ≡ total
    → with_readings (with_kept p at k) at (readings_fields size version shape (Some k.0) (count - (i + 1)) after) ≡ total
unfolding readings_fields
readings_go_on size version shape p at before count i bytes k after total lt h so_far =
    next count i (λ n. with_readings p at (readings_fields size version shape before n bytes))
    (λ n. with_readings (with_kept p at k) at (readings_fields size version shape (Some k.0) n after)) total lt
    (λ n. rw h (regroup_readings p at k (readings_fields size version shape (Some k.0) n after))) so_far

-- where the next reading can't be read, reading all fails so
pub readings_end : (e : TextFault) (size : ℕ) (version : Version) (shape : PictureShape) (p : PartialPicture) (at : LinePlace)
    (before : Option (List ℕ)) (count i : ℕ) (bytes : List ℕ) (total : Result (PartialPicture × List ℕ) TextFault)
    → i < count
    → Fails e (kept_fields size version shape before bytes)
    → with_readings p at (readings_fields size version shape before (count - i) bytes) ≡ total → Fails e total
unfolding readings_fields
readings_end e size version shape p at before count i bytes total lt h so_far =
    next_fails e count i (kept_fields size version shape before bytes)
    (λ n first. readings_fields size version shape (Some first.0.0) n first.1 >>= λ others. Ok (first.0 ∷ others.0, others.1))
    (λ x. Ok (with_all p (map (kept_at_place at) x.0), x.1)) (λ n. readings_fields size version shape before n bytes) total (λ n. refl) lt
    h so_far

-- where no reading is left, those that were read are all
pub readings_done : (size : ℕ) (version : Version) (shape : PictureShape) (p : PartialPicture) (at : LinePlace) (before : Option (List ℕ))
    (count i : ℕ) (bytes : List ℕ) (total : Result (PartialPicture × List ℕ) TextFault)
    → count ≤ i
    → with_readings p at (readings_fields size version shape before (count - i) bytes) ≡ total → total ≡ Ok (p, bytes)
unfolding readings_fields
readings_done size version shape p at before count i bytes total le so_far =
    none_left count i (λ n. with_readings p at (readings_fields size version shape before n bytes)) total le so_far

-- ---- entries

abbrev step : PartialPicture → Entry → PartialPicture
step p e = with_all p (map (kept_at_place e.0) e.1)

-- taking one entry, and then the others, is taking all of them
regroup_entries : (p : PartialPicture) (e : Entry) (read : Result (List Entry × List ℕ) TextFault)
    → with_entries p (read >>= λ y. Ok (e ∷ y.0, y.1)) ≡ with_entries (step p e) read
regroup_entries p e (Ok y) =
    ap (λ (ks : List (Reading × List ℕ)). Ok (with_all p ks, y.1)) (flat_map-cons (λ (e : Entry). map (kept_at_place e.0) e.1) e y.0)
    ∙ ap (λ (q : PartialPicture). Ok (q, y.1)) (with_all-append p (map (kept_at_place e.0) e.1) (kept_readings y.0))
regroup_entries p e (Err f) = refl

-- what one entry gave, from what reading it into the partial gave
pub entry_given : (p q : PartialPicture) (at : LinePlace) (after : List ℕ) (read : Result (Entry × List ℕ) TextFault)
    → with_entry p read ≡ Ok (q, at, after)
    → (xs : List Kept) × (read ≡ Ok ((at, xs), after)) × (with_all p (map (kept_at_place at) xs) ≡ q)
entry_given p q at after (Ok ((a, xs), bytes)) e =
    let parts : ◌≡◌ {A = PartialPicture × LinePlace × List ℕ} (with_all p (map (kept_at_place a) xs), a, bytes) (q, at, after) = cc in (
      xs,
      (λ i. Ok (((parts i).1, xs), (parts i).2)),
      ap (λ (z : LinePlace). with_all p (map (kept_at_place z) xs)) (sym (ap (λ (y : PartialPicture × LinePlace × List ℕ). y.1) parts))
          ∙ ap (λ (y : PartialPicture × LinePlace × List ℕ). y.0) parts,
    )
entry_given p q at after (Err f) e = absurd cc

-- after one entry more, reading the entries that are left gives what reading all of them gives
pub entries_go_on : (size : ℕ) (version : Version) (shape : PictureShape) (p q : PartialPicture) (before : Option LinePlace) (count i : ℕ)
    (bytes : List ℕ) (at : LinePlace) (after : List ℕ) (total : Result (PartialPicture × List ℕ) TextFault)
    → i < count
    → with_entry p (entry_fields size version shape before bytes) ≡ Ok (q, at, after)
    → with_entries p (entries_fields size version shape before (count - i) bytes) ≡ total
    → with_entries q (entries_fields size version shape (Some at) (count - (i + 1)) after) ≡ total
unfolding entries_fields
entries_go_on size version shape p q before count i bytes at after total lt h so_far =
    let given = entry_given p q at after (entry_fields size version shape before bytes) h in
    let rest = λ (n : ℕ). entries_fields size version shape (Some at) n after in
    subst (λ (z : PartialPicture). with_entries z (rest (count - (i + 1))) ≡ total) given.2
    (next count i (λ n. with_entries p (entries_fields size version shape before n bytes))
    (λ n. with_entries (with_all p (map (kept_at_place at) given.0)) (rest n)) total lt
    (λ n. ap (λ (r : Result (Entry × List ℕ) TextFault). with_entries p (r >>= λ first.
    entries_fields size version shape (Some first.0.0) n first.1 >>= λ others. Ok (first.0 ∷ others.0, others.1))) given.1
    ∙ regroup_entries p (at, given.0) (rest n)) so_far)

-- an entry that is taken leaves the shape
pub entry_keeps_shape : (size : ℕ) (version : Version) (shape : PictureShape) (p q : PartialPicture) (before : Option LinePlace)
    (bytes : List ℕ) (at : LinePlace) (after : List ℕ)
    → with_entry p (entry_fields size version shape before bytes) ≡ Ok (q, at, after) → q.shape ≡ p.shape
entry_keeps_shape size version shape p q before bytes at after h = let given =
    entry_given p q at after (entry_fields size version shape before bytes) h in ap (λ (z : PartialPicture). z.shape) (sym given.2)

-- a fault of an entry that is read into a partial is one of the entry
pub fault_given : {A B : Type 0} (e : TextFault) (read : Result A TextFault) (f : A → B) → Fails e (read >>= λ x. Ok (f x)) → Fails e read
fault_given {A} {B} e (Ok x) f h = fails_then {A = B} {B = A} e (Ok (f x)) (λ y. Ok x) h
fault_given {A} {B} e (Err d) f h = fails_then {A = B} {B = A} e (Err d) (λ y. Err d) h

-- where reading the next entry fails, reading all of them fails so
pub entries_end : (e : TextFault) (size : ℕ) (version : Version) (shape : PictureShape) (p : PartialPicture) (before : Option LinePlace)
    (count i : ℕ) (bytes : List ℕ) (total : Result (PartialPicture × List ℕ) TextFault)
    → i < count
    → Fails e (with_entry p (entry_fields size version shape before bytes))
    → with_entries p (entries_fields size version shape before (count - i) bytes) ≡ total → Fails e total
unfolding entries_fields
entries_end e size version shape p before count i bytes total lt h so_far =
    next_fails e count i (entry_fields size version shape before bytes)
    (λ n first. entries_fields size version shape (Some first.0.0) n first.1 >>= λ others. Ok (first.0 ∷ others.0, others.1))
    (λ x. Ok (with_all p (kept_readings x.0), x.1)) (λ n. entries_fields size version shape before n bytes) total (λ n. refl) lt
    (fault_given e (entry_fields size version shape before bytes) (λ x. (with_all p (map (kept_at_place x.0.0) x.0.1), x.0.0, x.1)) h)
    so_far

-- where no entry is left, those that were read are all
pub entries_done : (size : ℕ) (version : Version) (shape : PictureShape) (p : PartialPicture) (before : Option LinePlace) (count i : ℕ)
    (bytes : List ℕ) (total : Result (PartialPicture × List ℕ) TextFault)
    → count ≤ i
    → with_entries p (entries_fields size version shape before (count - i) bytes) ≡ total → total ≡ Ok (p, bytes)
unfolding entries_fields
entries_done size version shape p before count i bytes total le so_far =
    none_left count i (λ n. with_entries p (entries_fields size version shape before n bytes)) total le so_far

-- ---- the whole

-- what all entries gave, from what reading them into the partial gave
pub entries_given : (p q : PartialPicture) (rest : List ℕ) (read : Result (List Entry × List ℕ) TextFault) → with_entries p read
    ≡ Ok (q, rest)
    → (es : List Entry) × (read ≡ Ok (es, rest)) × (with_all p (kept_readings es) ≡ q)
entries_given p q rest (Ok (es, bytes)) e =
    let parts : ◌≡◌ {A = PartialPicture × List ℕ} (with_all p (kept_readings es), bytes) (q, rest) = cc in
    (es, (λ i. Ok (es, (parts i).1)), ap (λ (y : PartialPicture × List ℕ). y.0) parts)
entries_given p q rest (Err f) e = absurd cc
