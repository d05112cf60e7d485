-- The steps of `write`, put together.
use Rattle.std.proofs.Common.{◌≡◌, ℕ, Bool, true, false, List, [], ◌∷◌, ◌++◌, Option, None, Result, Ok, Err, take, refl, sym, subst, arith}
use Rattle.std.specs.Borrow.{Bor}
use Rattle.std.specs.Prelude.{IfErr}
use Rattle.jls_partial.specs.Status.{IsSettled}
use Rattle.jls_write.specs.Picture.{WholePicture, picture_of}
use Rattle.jls_write.specs.Options.{WriteOptions, OptionsFit}
use Rattle.jls_write.specs.WholePictures.{IsPicture}
use Rattle.jls_write.specs.Pnm.{pnm}
use Rattle.jls_write.specs.Outcomes.{HandedPrefix, StoppedBy}
use Rattle.jls_write.specs.declared.output.OutputFault.{OutputFault}
use Rattle.jls_write.specs.declared.output.OutputFault.TheVariants.{Write, OutOfMemory}
use Rattle.jls_write.specs.Unsettled.{NamesFirstUnsettled}
use Rattle.jls_write.specs.declared.picture.PictureFault.{PictureFault}
use Rattle.jls_io.specs.Event.{Event, History, GrewBy, created, not_created}
use Rattle.jls_io.specs.Writing.{Wrote}
use Rattle.jls_io.proofs.Growing.{grew_on, grew_as, grew_not}
use Rattle.jls_write.specs.Stops.{StopsIn}
use Rattle.jls_write.specs.WrittenFile.{written_file}
use Rattle.jls_station.specs.Given.{Given}
use Rattle.jls_salvage_run.specs.AllInputs.{IsTaken, StopsAt}
use Rattle.jls_io.specs.Outputs.{HandsOut}
use Rattle.jls_cli.specs.Outputs.{StopsAtOutput, cut, not_there}
use Rattle.jls_cli.specs.Outcomes.{finished, refusal_at}
use Rattle.jls_cli.specs.declared.outcome.Refusal.{Refusal}
use Rattle.jls_cli.specs.declared.outcome.Cause.TheVariants as cause
use Rattle.jls_cli.proofs.OutputSteps.{created_and_cut, grew_after}
use Rattle.jls_salvage_run.specs.Reporting.{Says}
use Rattle.jls_salvage_run.specs.WritingFiles.{cut_refusal, file, FitsFormat, IsTooLarge, options_for, takes_memory, StopsAtFile, too_large}
use Rattle.jls_salvage_run.specs.WritingFiles.{at_output, no_memory, unsettled_refusal, WritesFile, done, at_input, unsettled, at_file}
use Rattle.jls_salvage_run.specs.declared.writing.Format.{Format}
use Rattle.jls_salvage_run.specs.declared.writing.Format.TheVariants.{Pnm, Jls}
use Rattle.jls_salvage_run.proofs.TooLarge.{only_too_large}

module _ (f : Format) (out name : List ℕ) (old mid new : History) where
  pub stops_at_input : (r : Refusal) → r.name.now ≡ name → GrewBy (StopsAt None [] r) old mid
      → GrewBy (WritesFile f out name (Err r)) old mid
  stops_at_input r named = grew_as (StopsAt None [] r) (WritesFile f out name (Err r)) old mid
      (λ events h. at_input f out name r events named h)

  module _ (g : Given) (taken : GrewBy (IsTaken None name g) old mid) where
    pub stops_unsettled : (r : Refusal) (input : Bor (List ℕ)) (fault : PictureFault) → input.now ≡ name
        → NamesFirstUnsettled g.partial fault
        → r ≡ unsettled_refusal input g.partial fault
        → GrewBy (WritesFile f out name (Err r)) old mid
    stops_unsettled r input fault named first is =
        grew_as (IsTaken None name g) (WritesFile f out name (Err r)) old mid
        (λ events h. unsettled f out name r input g fault events named h first is) taken

    module _ (settled : IsSettled g.partial) where
      pub is_written : (whole : Bool) → Says g true whole → FitsFormat f (picture_of g.partial)
          → GrewBy (HandsOut out (file f (picture_of g.partial))) mid new
          → GrewBy (WritesFile f out name (finished true whole)) old new
      is_written whole says fit =
          grew_on (IsTaken None name g) (HandsOut out (file f (picture_of g.partial))) (WritesFile f out name (finished true whole)) old mid
          new
          (λ a b t h. done f out name g whole a b t settled says fit h) taken

      pub stops_at_file : (r : Refusal) → r.name.now ≡ out
          → GrewBy (StopsAtFile (FitsFormat f (picture_of g.partial)) (IsTooLarge f (picture_of g.partial)) (takes_memory f)
          (file f (picture_of g.partial)) r) mid new
          → GrewBy (WritesFile f out name (Err r)) old new
      stops_at_file r named =
          grew_on (IsTaken None name g) (StopsAtFile (FitsFormat f (picture_of g.partial)) (IsTooLarge f (picture_of g.partial))
          (takes_memory f) (file f (picture_of g.partial)) r) (WritesFile f out name (Err r)) old mid new
          (λ a b t h. at_file f out name r g a b named t settled h) taken

-- a file that went out in part
pub cut_after : (f : OutputFault) (old mid new : History) (name : Bor (List ℕ)) (bytes : List ℕ) (held holds : Option (List ℕ))
    → mid ≡ old ++ created name.now ∷ []
    → StoppedBy f 0 (HandedPrefix mid new held holds bytes) → GrewBy (StopsAtOutput name.now bytes (cut_refusal name f)) old new
cut_after (Write count) old mid new name bytes held holds made h =
    let is : count ≡ h.0 = omega (arith, h.1) in
    let prefix = subst (HandedPrefix mid new held holds bytes) (sym is) h.2 in
    created_and_cut old mid new name bytes count made prefix.wrote
cut_after (OutOfMemory count) old mid new name bytes held holds made h = absurd h

-- the same of a file whose writer takes memory
pub cut_in_file : (F L : Type 0) → F
    → (f : OutputFault) (old mid new : History) (name : Bor (List ℕ)) (bytes : List ℕ) (held holds : Option (List ℕ))
    → mid ≡ old ++ created name.now ∷ []
    → StopsIn f 0 mid new held holds bytes → GrewBy (StopsAtFile F L true bytes (cut_refusal name f)) old new
cut_in_file F L fit (Write count) old mid new name bytes held holds made h =
    grew_as (StopsAtOutput name.now bytes (cut_refusal name (Write count))) (StopsAtFile F L true bytes (cut_refusal name (Write count)))
    old new
    (λ events k. at_output bytes (cut_refusal name (Write count)) events fit k)
    (cut_after (Write count) old mid new name bytes held holds made h)
cut_in_file F L fit (OutOfMemory count) old mid new name bytes held holds made h =
    let part = h.2 in
    grew_after (Wrote (take h.0 bytes)) (StopsAtFile F L true bytes (refusal_at name cause.OutOfMemory)) old mid new (created name.now)
    (λ writes w. no_memory name bytes h.0 writes fit refl part.not_all w) made part.out.wrote

-- nothing was created
pub stops_before : (F L : Type 0) (takes : Bool) → L → (h : History) (name : Bor (List ℕ)) (bytes : List ℕ)
    → GrewBy (StopsAtFile F L takes bytes (refusal_at name cause.TooLarge)) h h
stops_before F L takes large h name bytes =
    grew_not (StopsAtFile F L takes bytes (refusal_at name cause.TooLarge)) h (too_large name bytes large)

-- what it is too large for is another way to say it
too_large_so : (F L M : Type 0) (takes : Bool) → (L → M) → (bytes : List ℕ) (r : Refusal) (events : List Event)
    → StopsAtFile F L takes bytes r events
    → StopsAtFile F M takes bytes r events
too_large_so F L M takes so _ _ _ (too_large name bytes large) = too_large name bytes (so large)
too_large_so F L M takes so _ _ _ (at_output bytes r events fit h) = at_output bytes r events fit h
too_large_so F L M takes so _ _ _ (no_memory name bytes count writes fit is lt h) = no_memory name bytes count writes fit is lt h

-- the output stopped it, whose name the refusal has
at_its_name : (name bytes : List ℕ) (r : Refusal) (events : List Event) → StopsAtOutput name bytes r events
    → StopsAtOutput r.name.now bytes r events
at_its_name name bytes r _ (not_there named is) =
    subst (λ (n : List ℕ). StopsAtOutput r.name.now bytes r (not_created n ∷ [])) named (not_there refl is)
at_its_name name bytes r _ (cut count writes named is h) =
    subst (λ (n : List ℕ). StopsAtOutput r.name.now bytes r (created n ∷ writes)) named (cut count writes refl is h)

pub stopped_by_output : (F L : Type 0) (takes : Bool) → F → (r : Refusal) (old new : History) (name bytes : List ℕ)
    → GrewBy (StopsAtOutput name bytes r) old new
    → GrewBy (StopsAtFile F L takes bytes r) old new
stopped_by_output F L takes fit r old new name bytes =
    grew_as (StopsAtOutput name bytes r) (StopsAtFile F L takes bytes r) old new
    (λ events k. at_output bytes r events fit (at_its_name name bytes r events k))

-- what stops a PNM file
pnm_stopped : {T : Type 0} (r : Result T Refusal) (old new : History) (name : List ℕ) (picture : WholePicture)
    → IfErr r (λ c. GrewBy (StopsAtOutput name (pnm picture) c) old new)
    → IfErr r (λ c. GrewBy (StopsAtFile (FitsFormat Pnm picture) (IsTooLarge Pnm picture) (takes_memory Pnm) (file Pnm picture) c) old new)
pnm_stopped (Ok x) old new name picture h = tt
pnm_stopped (Err c) old new name picture h = stopped_by_output (Unit {0}) ⊥ false tt c old new name (pnm picture) h

pub stopped_as_pnm : {T : Type 0} (f : Format) → f ≡ Pnm
    → (r : Result T Refusal) (old new : History) (name : List ℕ) (picture : WholePicture)
    → IfErr r (λ c. GrewBy (StopsAtOutput name (pnm picture) c) old new)
    → IfErr r (λ c. GrewBy (StopsAtFile (FitsFormat f picture) (IsTooLarge f picture) (takes_memory f) (file f picture) c) old new)
stopped_as_pnm {T} f e r old new name picture h =
    subst (λ (x : Format). IfErr r
    (λ c. GrewBy (StopsAtFile (FitsFormat x picture) (IsTooLarge x picture) (takes_memory x) (file x picture) c) old new)) (sym e)
    (pnm_stopped r old new name picture h)

-- and a JPEG-LS file
jls_stopped : {T : Type 0} (line : Bool) (ri : ℕ) (r : Result T Refusal) (old new : History) (picture : WholePicture) → IsPicture picture
    → (o : WriteOptions) → o ≡ options_for line ri picture
    → IfErr r (λ c. GrewBy (StopsAtFile (OptionsFit picture o) (OptionsFit picture o → ⊥) true (written_file picture o) c) old new)
    → IfErr r (λ c. GrewBy (StopsAtFile (FitsFormat (Jls line ri) picture) (IsTooLarge (Jls line ri) picture) (takes_memory (Jls line ri))
    (file (Jls line ri) picture) c) old new)
jls_stopped line ri (Ok x) old new picture is o are h = tt
jls_stopped line ri (Err c) old new picture is o are h =
    let F = FitsFormat (Jls line ri) picture in
    let large = IsTooLarge (Jls line ri) picture in
    let bytes = file (Jls line ri) picture in
    grew_as (StopsAtFile F (F → ⊥) true bytes c) (StopsAtFile F large true bytes c) old new
    (λ events k. too_large_so F (F → ⊥) large true (only_too_large picture is line ri) bytes c events k)
    (subst (λ (x : WriteOptions). GrewBy (StopsAtFile (OptionsFit picture x) (OptionsFit picture x → ⊥) true (written_file picture x) c) old
    new) are h)

pub stopped_as_jls : {T : Type 0} (f : Format) (line : Bool) (ri : ℕ) → f ≡ Jls line ri
    → (r : Result T Refusal) (old new : History) (picture : WholePicture) → IsPicture picture
    → (o : WriteOptions) → o ≡ options_for line ri picture
    → IfErr r (λ c. GrewBy (StopsAtFile (OptionsFit picture o) (OptionsFit picture o → ⊥) true (written_file picture o) c) old new)
    → IfErr r (λ c. GrewBy (StopsAtFile (FitsFormat f picture) (IsTooLarge f picture) (takes_memory f) (file f picture) c) old new)
stopped_as_jls {T} f line ri e r old new picture is o are h =
    subst (λ (x : Format). IfErr r
    (λ c. GrewBy (StopsAtFile (FitsFormat x picture) (IsTooLarge x picture) (takes_memory x) (file x picture) c) old new)) (sym e)
    (jls_stopped line ri r old new picture is o are h)
