-- Files beside mended ones, and the verdicts on them.
use Rattle.std.proofs.Common.{◌≡◌, ℕ, Bool, true, false, List, [], ◌∷◌, ◌++◌, length, map, refl}
use Rattle.std.specs.Prelude.{replicate, if◌then◌else◌}
use Rattle.std.specs.List.{AllByRecursion}
use Rattle.std.proofs.lemmas.List.{append_assoc}
use Rattle.jls_partial.specs.Partial.{PartialPicture}
use Rattle.jls_search.specs.Faultless.{IsFaultless}
use Rattle.jls_search.specs.Files.{AreVerdicts}
use Rattle.jls_held.specs.MendedFiles.{MendedFile}
use Rattle.jls_held.specs.Judging.{EditedCopy}
use Rattle.jls_splice_run.specs.Carrying.{are_sound, files_beside, promise_for, verdicts_beside}
use Rattle.jls_splice_run.specs.ReadsAs.{EachReadsAs}
use Rattle.jls_splice_run.specs.declared.found.Promise.{Promise}
use Rattle.jls_splice_run.specs.declared.found.Promise.TheVariants.{Held, Lines, Picture}

-- what stands behind the files taken stands there with mended files before them too
pub more_beside : (promise : Promise) (mended : List MendedFile) (files more : List (List ℕ))
    → files_beside promise mended files ++ more ≡ files_beside promise mended (files ++ more)
more_beside Held mended files more = append_assoc (map (λ (f : MendedFile). f.bytes) mended) files more
more_beside (Picture ceiling) mended files more = refl
more_beside Lines mended files more = refl

-- mended files that read as a picture have no fault
pub none_has_a_fault : (p : PartialPicture) (mended : List MendedFile) → EachReadsAs p mended → AllByRecursion (λ f. IsFaultless f.bytes) mended
none_has_a_fault p [] each = tt
none_has_a_fault p (f ∷ mended) each = (each.0.faultless, none_has_a_fault p mended each.1)

-- if the picture is promised, each was found to read so
pub promised_are_read : (codings : List (List EditedCopy)) (strangers : List ℕ) (is_held are_read : Bool)
    → promise_for codings strangers is_held are_read ≡ Held → are_read ≡ true
promised_are_read codings strangers is_held are_read e = by is_held are_read (are_sound codings strangers) e
  where
    by : (held read sound : Bool) → (if held then (if read then (if sound then Held else Lines) else Lines) else Lines) ≡ Held → read ≡ true
    by false read sound e = absurd cc
    by true false sound e = absurd cc
    by true true sound e = refl

module _ (files : List (List ℕ)) (verdicts : List Bool) (are : AreVerdicts files verdicts) where
  with_mended : (mended : List MendedFile) → AllByRecursion (λ f. IsFaultless f.bytes) mended
      → AreVerdicts (map (λ (f : MendedFile). f.bytes) mended ++ files) (replicate (length mended) true ++ verdicts)
  with_mended [] none = are
  with_mended (f ∷ mended) none = ((λ is. none.0, λ is. refl), with_mended mended none.1)

  -- the verdicts are true of the files
  pub are_verdicts_beside : (promise : Promise) (mended : List MendedFile)
      → (promise ≡ Held → AllByRecursion (λ f. IsFaultless f.bytes) mended)
      → AreVerdicts (files_beside promise mended files) (verdicts_beside promise mended verdicts)
  are_verdicts_beside Held mended none = with_mended mended (none refl)
  are_verdicts_beside (Picture ceiling) mended none = are
  are_verdicts_beside Lines mended none = are
