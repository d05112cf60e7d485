-- What copies of several codings give each other, where none of the files taken is without a fault.
use Rattle.std.proofs.Common.{◌≡◌, ℕ, zero, suc, ◌<◌, Bool, true, false, List, [], ◌∷◌, length, get_or}
use Rattle.std.proofs.Common.{Option, Some, None, refl, sym, subst, arith}
use Rattle.std.specs.Prelude.{◌^◌, is_some, option_map}
use Rattle.std.specs.List.{AllByRecursion, Contains}
use Rattle.jls_search.specs.Faultless.{IsFaultless}
use Rattle.jls_search.specs.Files.{AreVerdicts}
use Rattle.jls_held.specs.MendedFiles.{MendedFile}
use Rattle.jls_held.specs.Judging.{AreMendedOf, EditedCopy, IsEditedTo}
use Rattle.jls_splice_run.specs.Carrying.{carried_file}
use Rattle.jls_carried.specs.CodingLines.{HasPrintedNumber, HavePrintedNumbers}
use Rattle.jls_splice_run.specs.declared.found.Promise.{Promise}
use Rattle.jls_splice_run.specs.declared.found.Promise.TheVariants.{Held, Lines, Picture}

-- no file is without a fault whose verdicts all say so
none_at : (files : List (List ℕ)) (verdicts : List Bool) → AreVerdicts files verdicts → AllByRecursion (λ v. v ≡ false) verdicts
    → (k : ℕ) (file : List ℕ) → k < length files → get_or files k file ≡ file → IsFaultless file → ⊥
none_at [] [] h none k file l e f = absurd (omega (arith, l))
none_at [] (v ∷ vs) h none k file l e f = absurd h
none_at (x ∷ xs) [] h none k file l e f = absurd h
none_at (x ∷ xs) (v ∷ vs) h none zero file l e f =
    let yes : v ≡ true = h.0.1 (subst IsFaultless (sym e) f) in
    let no = none.0 in
    absurd cc
none_at (x ∷ xs) (v ∷ vs) h none (suc k) file l e f = none_at xs vs h.1 none.1 k file (omega (arith, l)) e f

pub none_is_faultless : (files : List (List ℕ)) (verdicts : List Bool) → AreVerdicts files verdicts
    → AllByRecursion (λ v. v ≡ false) verdicts → (file : List ℕ) → Contains files file → IsFaultless file → ⊥
none_is_faultless files verdicts h none file (k, within, at) f = none_at files verdicts h none k file within at f

-- one is, if some verdict says so
one_is_faultless : (files : List (List ℕ)) (verdicts : List Bool) → AreVerdicts files verdicts → Contains verdicts true
    → (file : List ℕ) × Contains files file × IsFaultless file
one_is_faultless [] [] h (k, within, at) = absurd (omega (arith, within))
one_is_faultless [] (v ∷ vs) h c = absurd h
one_is_faultless (x ∷ xs) [] h c = absurd h
one_is_faultless (x ∷ xs) (v ∷ vs) h (zero, within, at) = (x, (0, omega arith, refl), h.0.0 at)
one_is_faultless (x ∷ xs) (v ∷ vs) h (suc k, within, at) =
    let one = one_is_faultless xs vs h.1 (k, omega (arith, within), at) in
    let place = one.1 in (one.0, (suc place.0, omega (arith, place.1), place.2), one.2)

-- so if none is, it was found that none is
pub found_none : (files : List (List ℕ)) (verdicts : List Bool) → AreVerdicts files verdicts → (is_none : Bool)
    → (is_none ≡ false → Contains verdicts true) → ((file : List ℕ) → Contains files file → IsFaultless file → ⊥) → is_none ≡ true
found_none files verdicts h true some none = refl
found_none files verdicts h false some none =
    let one = one_is_faultless files verdicts h (some refl) in absurd (none one.0 one.1 one.2)

-- numbers of few copies can be printed, counted from 1
printed_each : (copies : List (List ℕ)) (bytes : List ℕ) → length copies < 2 ^ 64 → (coding : List EditedCopy)
    → AllByRecursion (IsEditedTo copies bytes) coding → AllByRecursion HasPrintedNumber coding
printed_each copies bytes few [] all = tt
printed_each copies bytes few (e ∷ coding) all =
    let within = all.0.fits.within in (omega (arith, within, few), printed_each copies bytes few coding all.1)

pub are_printed : (copies : List (List ℕ)) → length copies < 2 ^ 64 → (codings : List (List EditedCopy)) (files : List MendedFile)
    → AreMendedOf copies codings files → HavePrintedNumbers codings
are_printed copies few [] [] all = tt
are_printed copies few [] (f ∷ files) all = absurd all
are_printed copies few (c ∷ codings) [] all = absurd all
are_printed copies few (c ∷ codings) (f ∷ files) all =
    (printed_each copies f.bytes few c all.0.each, are_printed copies few codings files all.1)

-- the mended file that is asked for by a name, as the code has the name
pub carried_file_maps : {A B : Type 0} (g : A → B) (name : Option A) (promise : Promise) (files : List MendedFile)
    → carried_file (option_map g name) promise files ≡ carried_file name promise files
carried_file_maps g None promise files = refl
carried_file_maps g (Some name) (Picture ceiling) files = refl
carried_file_maps g (Some name) Held [] = refl
carried_file_maps g (Some name) Held (f ∷ files) = refl
carried_file_maps g (Some name) Lines files = refl

-- nothing is there, if it is said that something isn't
pub none_there : {A : Type 0} (o : Option A) → is_some o ≡ false → o ≡ None
none_there None e = refl
none_there (Some x) e = absurd cc
