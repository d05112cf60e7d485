-- The readings that stand in a text before its first fault are taken as they are read.
use Rattle.std.proofs.Common.{◌≡◌, ℕ, zero, suc, ◌+◌, ◌-◌, ◌<◌, List, [], ◌∷◌, ◌++◌, map, Option, Some, None, Result, Ok, Err, refl, ap}
use Rattle.std.proofs.Common.{sym, subst, ◌∙◌, arith}
use Rattle.std.specs.Prelude.{OnErr}
use Rattle.std.proofs.lemmas.List.{append-nil}
use Rattle.std.proofs.lemmas.List.Concat.{flat_map-cons}
use Rattle.jls_values.specs.Shape.{PictureShape}
use Rattle.jls_partial.specs.declared.line_place.LinePlace.{LinePlace}
use Rattle.jls_partial.specs.declared.version.Version.{Version}
use Rattle.jls_partial.specs.Entries.{Entry, kept_at_place, kept_readings}
use Rattle.jls_partial.specs.Merging.{TakesPrefix}
use Rattle.jls_partial.specs.Packed.{Kept}
use Rattle.jls_partial.specs.Partial.{PartialPicture, with_all}
use Rattle.jls_partial.specs.Reading.{Reading}
use Rattle.jls_partial.specs.TextInto.{with_entry}
use Rattle.jls_partial.specs.TextPrefix.{unless_fault, readings_prefix, entry_prefix, entries_prefix}
use Rattle.jls_partial.specs.TextReading.{◌>>=◌, kept_fields, readings_fields, place_fields, count_field, entry_fields, entries_fields}
use Rattle.jls_partial.proofs.Growth.{IsSoFar, more_so_far, prefix_so_far}
use Rattle.jls_partial.proofs.TextFields.{bind_ok, ok_is}
use Rattle.jls_partial.proofs.TextEntries.{entry_parts}
use Rattle.jls_partial.proofs.TextLoops.{entry_given}

-- ---- prefixes

pub on_error : {T E : Type 0} (r : Result T E) (P : Type 0) → P → OnErr r P
on_error (Ok x) P h = tt
on_error (Err e) P h = h

-- what was taken so far is a prefix
pub so_far_prefix : (p q r : PartialPicture) (all left : List (Reading × List ℕ)) → IsSoFar p q all left → r ≡ q → TakesPrefix p r all
so_far_prefix p q r all left h e = record { taken = h.taken; left = left; parts = h.parts; new_is = e ∙ h.new_is }

-- where nothing was taken, that is one
pub nothing_taken : (p q : PartialPicture) (all : List (Reading × List ℕ)) → q ≡ p → TakesPrefix p q all
nothing_taken p q all e = record { taken = []; left = all; parts = refl; new_is = e }

-- all readings that are taken are a prefix of them
pub all_taken : (p q : PartialPicture) (all ks : List (Reading × List ℕ)) → all ≡ ks → q ≡ with_all p ks → TakesPrefix p q all
all_taken p q all ks is e = record { taken = ks; left = []; parts = is ∙ sym (append-nil ks); new_is = e }

-- ---- readings

-- the readings before the first fault are the next one, and then those of the rest
pub next_reading : (size : ℕ) (version : Version) (shape : PictureShape) (before : Option (List ℕ)) (count i : ℕ) (bytes : List ℕ)
    (k : Kept) (after : List ℕ)
    → i < count → kept_fields size version shape before bytes ≡ Ok (k, after)
    → readings_prefix size version shape before (count - i) bytes ≡ k
    ∷ readings_prefix size version shape (Some k.0) (count - (i + 1)) after
unfolding readings_prefix
next_reading size version shape before count i bytes k after lt read =
    let n : count - i ≡ suc (count - (i + 1)) = omega arith in
    rw (n, read) refl

-- where all readings are read, these are the readings before the first fault
whole_readings : (size : ℕ) (version : Version) (shape : PictureShape) (before : Option (List ℕ)) (n : ℕ) (bytes : List ℕ)
    (x : List Kept × List ℕ)
    → readings_fields size version shape before n bytes ≡ Ok x → readings_prefix size version shape before n bytes ≡ x.0
unfolding readings_prefix readings_fields
whole_readings size version shape before zero bytes x e = ap (λ (y : List Kept × List ℕ). y.0) (ok_is ([], bytes) x e)
whole_readings size version shape before (suc n) bytes x e =
    let a = bind_ok (kept_fields size version shape before bytes)
    (λ first. readings_fields size version shape (Some first.0.0) n first.1 >>= λ others. Ok (first.0 ∷ others.0, others.1)) x e in
    let b = bind_ok (readings_fields size version shape (Some a.0.0.0) n a.0.1) (λ others. Ok (a.0.0 ∷ others.0, others.1)) x a.2 in
    let made : List Kept × List ℕ = (a.0.0 ∷ b.0.0, b.0.1) in
    (λ j. unless_fault (a.1 j) (λ first. first.0 ∷ readings_prefix size version shape (Some first.0.0) n first.1))
    ∙ ap (λ (ks : List Kept). a.0.0 ∷ ks) (whole_readings size version shape (Some a.0.0.0) n a.0.1 b.0 b.1)
    ∙ ap (λ (y : List Kept × List ℕ). y.0) (ok_is made x b.2)

-- ---- entries

-- the readings of an entry before the first fault are those behind its place and count
pub entry_prefix_is : (size : ℕ) (version : Version) (shape : PictureShape) (before : Option LinePlace) (bytes : List ℕ) (at : LinePlace)
    (count_bytes : List ℕ) (count : ℕ) (rest : List ℕ)
    → place_fields size shape before bytes ≡ Ok (at, count_bytes) → count_field size count_bytes ≡ Ok (count, rest)
    → entry_prefix size version shape before bytes ≡ map (kept_at_place at) (readings_prefix size version shape None count rest)
unfolding entry_prefix
entry_prefix_is size version shape before bytes at count_bytes count rest p c =
    (λ j. unless_fault (p j) (λ place. unless_fault (count_field size place.1)
    (λ count. map (kept_at_place place.0) (readings_prefix size version shape None count.0 count.1))))
    ∙ (λ j. unless_fault (c j) (λ count. map (kept_at_place at) (readings_prefix size version shape None count.0 count.1)))

-- where an entry is read, its readings before the first fault are all of them
whole_entry : (size : ℕ) (version : Version) (shape : PictureShape) (before : Option LinePlace) (bytes : List ℕ) (x : Entry × List ℕ)
    → entry_fields size version shape before bytes ≡ Ok x → entry_prefix size version shape before bytes ≡ map (kept_at_place x.0.0) x.0.1
whole_entry size version shape before bytes x e =
    let parts = entry_parts size version shape before bytes x e in
    let p = parts.0 in
    let n = parts.1 in
    entry_prefix_is size version shape before bytes p.0 p.1 n.0 n.1 parts.3 parts.4
    ∙ ap (map (kept_at_place p.0)) (whole_readings size version shape None n.0 n.1 parts.2 parts.5)
    ∙ ap (λ (y : Entry × List ℕ). map (kept_at_place y.0.0) y.0.1) parts.6

-- the next entry, and those after it
next_prefix : (size : ℕ) (version : Version) (shape : PictureShape) (before : Option LinePlace) (count i : ℕ) (bytes : List ℕ) → i < count
    → entries_prefix size version shape before (count - i) bytes ≡ entry_prefix size version shape before bytes
    ++ unless_fault (entry_fields size version shape before bytes)
    (λ first. entries_prefix size version shape (Some first.0.0) (count - (i + 1)) first.1)
unfolding entries_prefix
next_prefix size version shape before count i bytes lt =
    let n : count - i ≡ suc (count - (i + 1)) = omega arith in
    rw n refl

module _ (size : ℕ) (version : Version) (shape : PictureShape) (before : Option LinePlace) (count i : ℕ) (bytes : List ℕ) (lt : i < count)
  where
    -- a prefix of the next entry is taken
    pub entry_cut : (old p q : PartialPicture) (all : List (Reading × List ℕ))
        → IsSoFar old p all (entries_prefix size version shape before (count - i) bytes)
        → TakesPrefix p q (entry_prefix size version shape before bytes) → TakesPrefix old q all
    entry_cut old p q all h f =
        let left = unless_fault (entry_fields size version shape before bytes)
        (λ first. entries_prefix size version shape (Some first.0.0) (count - (i + 1)) first.1) in
        prefix_so_far old p q all (entry_prefix size version shape before bytes) left
        (subst (IsSoFar old p all) (next_prefix size version shape before count i bytes lt) h) f

    -- all of it is
    pub entry_taken : (old p q : PartialPicture) (at : LinePlace) (after : List ℕ) (all : List (Reading × List ℕ))
        → IsSoFar old p all (entries_prefix size version shape before (count - i) bytes)
        → with_entry p (entry_fields size version shape before bytes) ≡ Ok (q, at, after)
        → IsSoFar old q all (entries_prefix size version shape (Some at) (count - (i + 1)) after)
    entry_taken old p q at after all h read =
        let given = entry_given p q at after (entry_fields size version shape before bytes) read in
        let ks = map (kept_at_place at) given.0 in
        let left = entries_prefix size version shape (Some at) (count - (i + 1)) after in
        let next : entries_prefix size version shape before (count - i) bytes ≡ ks ++ left =
        next_prefix size version shape before count i bytes lt
        ∙ (λ j. whole_entry size version shape before bytes ((at, given.0), after) given.1 j
        ++ unless_fault (given.1 j) (λ first. entries_prefix size version shape (Some first.0.0) (count - (i + 1)) first.1)) in
        more_so_far old p q all ks left (subst (IsSoFar old p all) next h) (sym given.2)

-- where all entries are read, the readings before the first fault are all of theirs
pub whole_entries : (size : ℕ) (version : Version) (shape : PictureShape) (before : Option LinePlace) (n : ℕ) (bytes : List ℕ)
    (x : List Entry × List ℕ)
    → entries_fields size version shape before n bytes ≡ Ok x → entries_prefix size version shape before n bytes ≡ kept_readings x.0
unfolding entries_prefix entries_fields
whole_entries size version shape before zero bytes x e = ap (λ (y : List Entry × List ℕ). kept_readings y.0) (ok_is ([], bytes) x e)
whole_entries size version shape before (suc n) bytes x e =
    let a = bind_ok (entry_fields size version shape before bytes)
    (λ first. entries_fields size version shape (Some first.0.0) n first.1 >>= λ others. Ok (first.0 ∷ others.0, others.1)) x e in
    let b = bind_ok (entries_fields size version shape (Some a.0.0.0) n a.0.1) (λ others. Ok (a.0.0 ∷ others.0, others.1)) x a.2 in
    let made : List Entry × List ℕ = (a.0.0 ∷ b.0.0, b.0.1) in
    (λ j. whole_entry size version shape before bytes a.0 a.1 j
    ++ unless_fault (a.1 j) (λ first. entries_prefix size version shape (Some first.0.0) n first.1))
    ∙ ap (λ (ks : List (Reading × List ℕ)). map (kept_at_place a.0.0.0) a.0.0.1 ++ ks)
    (whole_entries size version shape (Some a.0.0.0) n a.0.1 b.0 b.1)
    ∙ sym (flat_map-cons (λ (e : Entry). map (kept_at_place e.0) e.1) a.0.0 b.0.0)
    ∙ ap (λ (y : List Entry × List ℕ). kept_readings y.0) (ok_is made x b.2)
