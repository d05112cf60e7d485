-- Runs that were done.
use Rattle.std.proofs.Common.{◌≡◌, ℕ, ◌<◌, ◌≤◌, Bool, true, false, List, [], ◌∷◌, ◌++◌, length, map, Option, Some, None, refl, sym, ap, ◌∙◌}
use Rattle.std.proofs.Common.{subst, arith, inl, inr}
use Rattle.std.specs.Prelude.{◌↔◌, ◌⊎◌, IsTrue, IfSome, if◌then◌else◌}
use Rattle.std.specs.List.{Contains}
use Rattle.std.proofs.lemmas.List.{append-nil}
use Rattle.std.proofs.lemmas.List.Elements.{Contains-append_right}
use Rattle.std.proofs.lemmas.List.{length-map}
use Rattle.clap.specs.Words.{Text}
use Rattle.jls_io.specs.Event.{Event}
use Rattle.jls_io.specs.Writing.{Printed}
use Rattle.jls_io.proofs.Writes.{none_printed}
use Rattle.jls_write.specs.Picture.{WholePicture, picture_of}
use Rattle.jls_station.specs.CopyFiles.{CopyBytes, AreCopiesRead}
use Rattle.jls_partial.specs.Partial.{PartialPicture, nothing_known}
use Rattle.jls_partial.specs.Status.{IsSettled}
use Rattle.jls_search.specs.Faultless.{IsSought}
use Rattle.jls_search.specs.Search.{CameTo, files_of}
use Rattle.jls_search.specs.Found.{Found, splices_in}
use Rattle.jls_search.proofs.NoGroups.{splices_of_all}
use Rattle.jls_search.specs.Shapes.{IsShapeTaken}
use Rattle.jls_search.specs.Stations.{TakesFiles}
use Rattle.jls_splice_laws.specs.WholeFiles.{WholeFilesAreFaultless}
use Rattle.jls_values.specs.Shape.{PictureShape}
use Rattle.jls_search.specs.Faultless.{IsFaultless}
use Rattle.jls_held.specs.MendedFiles.{MendedFile}
use Rattle.jls_splice_run.specs.Carrying.{Carried, IsCarried, are_sound, carried_promise, files_beside, joined}
use Rattle.jls_cli.specs.SpliceAsking.{Asked, AskFor, Options, asked_with}
use Rattle.jls_cli.specs.Outcomes.{exit_status, finished}
use Rattle.jls_splice_run.specs.Completing.{IsCompleted}
use Rattle.jls_splice_run.specs.BadLists.{AreSearched}
use Rattle.jls_splice_run.specs.Inputs.{AreInputs}
use Rattle.jls_splice_run.specs.Copies.{AreWhole, bytes_read, stops_read}
use Rattle.jls_splice_run.specs.Handing.{HandsAll}
use Rattle.jls_splice_run.specs.Ceilings.{has_some}
use Rattle.jls_splice_run.specs.Listing.{AreNamedAsked, NamedFile, is_named}
use Rattle.jls_splice_run.specs.Single.{IsOnly, IsSingleAsked}
use Rattle.jls_splice_run.specs.Making.{IsCutFile, IsCutTaken, IsMade, IsPictureOf, IsPictureOfFiles, Made, cut_file, is_of_picture}
use Rattle.jls_splice_run.specs.Making.{AreNamedOf, IsSingleOf, files_taken, notes, promise_on, promise_with}
use Rattle.jls_splice_run.specs.Telling.{IsTold}
use Rattle.jls_splice_run.specs.declared.found.Promise.{Promise}
use Rattle.jls_splice_run.specs.declared.found.Promise.TheVariants.{Held, Picture, Lines}
use Rattle.jls_copy_laws.proofs.Members.{none_in}
use Rattle.jls_splice_run.specs.Runs.{Performs, came_of, no_names, at_inputs, not_made, not_handed, done, texts}
use Rattle.jls_splice_run.specs.Runs.{performed, named_twice, numbered_out, no_list, misused, helped, help_cut, nothing_begun, nothing_asked}
use Rattle.jls_splice_laws.proofs.HandedFiles.{is_named_if_few}
use Rattle.jls_splice_laws.proofs.StoppedRuns.{handing_above, inputs_above, unmade_above}
use Rattle.jls_splice_laws.specs.CutLaws.{WereCut}
use Rattle.jls_splice_laws.specs.SplicingLaws.{SplicedCopiesGiveNoOther}
use Rattle.jls_splice_laws.specs.RunLaws.{DidMake, DidStop, FailedReadsCauseStatus4, IsWholeSplice, SplicedRunsAreDone}
use Rattle.jls_splice_laws.specs.RunLaws.{SplicedRunsGiveNoOther, SplicedRunsHandOutTheFile, SplicedRunsTakeTheCut}

-- a run that stops has a status above 1
not_done : (status : ℕ) → 1 < status → status ≤ 1 → ⊥
not_done status above e = omega (arith, above, e)

was_whole : (settled whole : Bool) → exit_status (finished settled whole) ≤ 1 → IsTrue whole
was_whole settled true e = refl
was_whole settled false e = absurd (omega (arith, e))

-- a run that is done, and whose copies were read to their ends, ends with status 0 exactly where the promise is of the picture
status_is : (promises whole : Bool) → exit_status (finished promises whole) ≤ 1
    → (exit_status (finished promises whole) ≡ 0 ↔ IsTrue promises)
status_is true true e = (λ is. refl, λ is. refl)
status_is false true e = (λ is. absurd (omega (arith, is)), λ is. absurd cc)
status_is true false e = absurd (omega (arith, e))
status_is false false e = absurd (omega (arith, e))

-- a run that is done ends with status 4 only if a copy was not read to its end
pub not_whole : (promises whole : Bool) → exit_status (finished promises whole) ≡ 4 → IsTrue whole → ⊥
not_whole true true e is = omega (arith, e)
not_whole false true e is = omega (arith, e)
not_whole promises false e is = absurd cc

module _ (words : List Text) (a : Asked) (asks : AskFor words a) where
  unfoldable pub was_done : (read copies : List CopyBytes) (m : Made) (reading writing report telling noting line : List Event)
      → AreInputs a read copies reading → IsMade a (bytes_read copies) m → IsTold a.options.progress telling
      → Printed (notes a (bytes_read copies) m) noting → HandsAll (texts a copies m) writing report → Printed [] line
      → DidMake words a (reading ++ writing) report ((telling ++ noting) ++ line)
  was_done read copies m reading writing report telling noting line inputs made told noted handed none = record {
    asks = asks;
    copies_read = read;
    copies = copies;
    made = m;
    reading = reading;
    writing = writing;
    telling = telling;
    noting = noting;
    desk_is = refl;
    faults_are = ap (λ (es : List Event). (telling ++ noting) ++ es) (none_printed line none) ∙ append-nil (telling ++ noting);
    read = inputs;
    is_made = made;
    told = told;
    noted = noted;
    handed = handed;
  }

  did_make : (status : ℕ) (desk report faults : List Event) → Performs a status desk report faults → status ≤ 1
      → (did : DidMake words a desk report faults) × AreWhole did.copies_read × (status ≡ 0 ↔ IsTrue (is_of_picture (promise_on did.made)))
  unfolding was_done
  did_make _ _ _ _ (came_of _ _ _ _ line (at_inputs r desk stops) told) e = absurd (not_done _ (inputs_above a r desk stops) e)
  did_make _ _ _ _ (came_of _ _ _ _ line (not_made r read copies desk faults inputs cant tells) told) e =
      absurd (not_done _ (unmade_above a copies r cant) e)
  did_make _ _ _ _ (came_of _ _ _ _ line (not_handed r read copies m reading desk report faults noting inputs made tells noted stops) told) e =
      absurd (not_done _ (handing_above _ r desk report stops) e)
  did_make _ _ _ _
      (came_of _ _ _ _ line (done read copies m whole reading desk report faults noting inputs made tells noted handed is_read) none) e = (
        was_done read copies m reading desk report faults noting line inputs made tells noted handed none,
        is_read.0 (was_whole (is_of_picture (promise_on m)) whole e),
        status_is (is_of_picture (promise_on m)) whole e,
      )
  did_make _ _ _ _ (no_names faults told) e = absurd (omega (arith, e))

  did_fail : (status : ℕ) (desk report faults : List Event) → Performs a status desk report faults → status ≡ 4
      → ((did : DidMake words a desk report faults) × (AreWhole did.copies_read → ⊥)) ⊎ DidStop a desk report faults
  unfolding was_done
  did_fail _ _ _ _ (came_of _ _ _ _ line (at_inputs r desk stops) told) e =
      inr (record { refusal = r; stopping = []; line = line; faults_are = refl; stopped = at_inputs r desk stops; told = told })
  did_fail _ _ _ _ (came_of _ _ _ _ line (not_made r read copies desk faults inputs cant tells) told) e =
      inr (record {
        refusal = r;
        stopping = faults;
        line = line;
        faults_are = refl;
        stopped = not_made r read copies desk faults inputs cant tells;
        told = told;
      })
  did_fail _ _ _ _ (came_of _ _ _ _ line (not_handed r read copies m reading desk report faults noting inputs made tells noted stops) told) e =
      inr (record {
        refusal = r;
        stopping = faults ++ noting;
        line = line;
        faults_are = refl;
        stopped = not_handed r read copies m reading desk report faults noting inputs made tells noted stops;
        told = told;
      })
  did_fail _ _ _ _
      (came_of _ _ _ _ line (done read copies m whole reading desk report faults noting inputs made tells noted handed is_read) none) e =
      inl (
        was_done read copies m reading desk report faults noting line inputs made tells noted handed none,
        λ are. not_whole (is_of_picture (promise_on m)) whole e (is_read.1 are),
      )
  did_fail _ _ _ _ (no_names faults told) e = absurd (omega (arith, e))

  pub one_asked : (b : Asked) → AskFor words b → b ≡ a
  one_asked b other = let e : Some b ≡ Some a = sym other.asks ∙ asks.asks in cc

pub spliced_runs_are_done : SplicedRunsAreDone
spliced_runs_are_done words a _ _ _ _ asks (performed b status desk report faults other not_file not_numbered listed h) e =
    did_make words a asks status desk report faults
    (subst (λ (x : Asked). Performs x status desk report faults) (one_asked words a asks b other) h) e
spliced_runs_are_done words a _ _ _ _ asks (named_twice b faults other is line) e = absurd (omega (arith, e))
spliced_runs_are_done words a _ _ _ _ asks (numbered_out b faults other not_file is line) e = absurd (omega (arith, e))
spliced_runs_are_done words a _ _ _ _ asks (no_list b value faults other not_file not_numbered is line) e = absurd (omega (arith, e))
spliced_runs_are_done words a _ _ _ _ asks (misused k usage faults refused is line) e = absurd (omega (arith, e))
spliced_runs_are_done words a _ _ _ _ asks (helped k help report refused is wrote) e = absurd (refused.not_taken asks.taken)
spliced_runs_are_done words a _ _ _ _ asks (help_cut k help count report faults refused is wrote line) e = absurd (omega (arith, e))
spliced_runs_are_done words a _ _ _ _ asks (nothing_begun faults line) e = absurd (omega (arith, e))
spliced_runs_are_done words a _ _ _ _ asks (nothing_asked faults nothing line) e = absurd (omega (arith, e))

pub failed_reads_cause_status_4 : FailedReadsCauseStatus4
failed_reads_cause_status_4 words a _ _ _ _ asks (performed b status desk report faults other not_file not_numbered listed h) e =
    did_fail words a asks status desk report faults
    (subst (λ (x : Asked). Performs x status desk report faults) (one_asked words a asks b other) h) e
failed_reads_cause_status_4 words a _ _ _ _ asks (named_twice b faults other is line) e = absurd (omega (arith, e))
failed_reads_cause_status_4 words a _ _ _ _ asks (numbered_out b faults other not_file is line) e = absurd (omega (arith, e))
failed_reads_cause_status_4 words a _ _ _ _ asks (no_list b value faults other not_file not_numbered is line) e =
    absurd (omega (arith, e))
failed_reads_cause_status_4 words a _ _ _ _ asks (misused k usage faults refused is line) e = absurd (omega (arith, e))
failed_reads_cause_status_4 words a _ _ _ _ asks (helped k help report refused is wrote) e = absurd (omega (arith, e))
failed_reads_cause_status_4 words a _ _ _ _ asks (help_cut k help count report faults refused is wrote line) e =
    absurd (refused.not_taken asks.taken)
failed_reads_cause_status_4 words a _ _ _ _ asks (nothing_begun faults line) e = absurd (omega (arith, e))
failed_reads_cause_status_4 words a _ _ _ _ asks (nothing_asked faults nothing line) e = absurd (omega (arith, e))

-- ---- what was made

-- words ask for some copy
asked_some : (o : Option Options) (out first : Option Text) (others bad witnesses : List Text) (a : Asked)
    → asked_with o out first others bad witnesses ≡ Some a → 0 < length a.copies
asked_some (Some o) (Some out) (Some first) [] [] [] a e = absurd cc
asked_some (Some o) (Some out) (Some first) [] [] (witness ∷ more) a e =
    let same : a ≡ record { options = o; out = out; copies = first ∷ []; bad = []; witnesses = witness ∷ more } = cc in
    subst (λ (x : Asked). 0 < length x.copies) (sym same) (omega arith)
asked_some (Some o) (Some out) (Some first) [] (value ∷ bad) witnesses a e =
    let same : a ≡ record { options = o; out = out; copies = first ∷ []; bad = value ∷ bad; witnesses = witnesses } = cc in
    subst (λ (x : Asked). 0 < length x.copies) (sym same) (omega arith)
asked_some (Some o) (Some out) (Some first) (second ∷ others) bad witnesses a e =
    let same : a ≡ record { options = o; out = out; copies = first ∷ second ∷ others; bad = bad; witnesses = witnesses } = cc in
    subst (λ (x : Asked). 0 < length x.copies) (sym same) (omega arith)
asked_some (Some o) (Some out) None others bad witnesses a e = absurd cc
asked_some (Some o) None first others bad witnesses a e = absurd cc
asked_some None out first others bad witnesses a e = absurd cc

-- as many copies were read as there are names
some_copy : (names : List (List ℕ)) (copies : List CopyBytes) (events : List Event) → AreCopiesRead names copies events → 0 < length names
    → 0 < length (bytes_read copies)
some_copy [] [] events read some = some
some_copy [] (copy ∷ copies) events read some = absurd read
some_copy (name ∷ names) [] events read some = absurd read
some_copy (name ∷ names) (copy ∷ copies) events read some = omega arith

-- reading of what is searched stopped as that of the copies did
pub same_stops : (values : List Text) (read searched : List CopyBytes) (listing : List Event) → AreSearched values read searched listing
    → stops_read searched ≡ stops_read read
same_stops [] read searched listing h = ap stops_read h.0
same_stops (value ∷ values) read searched listing h = h.stops_are

-- so they are as many
some_searched : (a : Asked) (read searched : List CopyBytes) (events : List Event) → AreInputs a read searched events
    → 0 < length a.copies → 0 < length (bytes_read searched)
some_searched a read searched events h some =
    let one = some_copy a.copies read h.reading h.copies_read some in
    let same = ap length (same_stops a.bad read searched h.listing h.are_searched) in
    let n = length-map read (λ (c : CopyBytes). c.bytes) in
    let m = length-map read (λ (c : CopyBytes). c.stop) in
    let k = length-map searched (λ (c : CopyBytes). c.bytes) in
    let l = length-map searched (λ (c : CopyBytes). c.stop) in
    omega (arith, one, same, n, m, k, l)

-- the cut file that was taken is the one that was found
cut_is_lone : (copies : List (List ℕ)) (f : Found) (ceiling : Option ℕ) (lone cut : Option (List ℕ)) (path : List ℕ) → cut ≡ Some path
    → IfSome lone (IsCutFile ceiling f) → IsCutTaken copies f lone cut → IsCutFile ceiling f path
cut_is_lone copies f ceiling lone cut path is found (inl same) =
    subst (λ (o : Option (List ℕ)). IfSome o (IsCutFile ceiling f)) (sym same ∙ is) found
cut_is_lone copies f ceiling lone cut path is found (inr (none, why)) = absurd cc

-- a cut file is taken only where the search of all splices found nothing
module _ (a : Asked) (copies : List (List ℕ)) (m : Made) (is : IsMade a copies m) (file : List ℕ) where
  files_alone : (cut : Option (List ℕ)) → m.cut ≡ cut → Contains (files_of m.found.parts m.found.choices) file
      → IsPictureOfFiles a.options.source copies (splices_in m.found) m.given
  files_alone None e among =
      subst (λ (c : Option (List ℕ)). IsPictureOf a.options.source copies (splices_in m.found) (cut_file m.found c) m.given)
      e is.is_given
  files_alone (Some path) e among =
      let cut : IsCutFile m.cut_ceiling m.found path = cut_is_lone copies m.found m.cut_ceiling m.lone m.cut path e is.is_lone is.is_cut in
      absurd (none_in file (subst (λ (xs : List (List ℕ)). Contains (files_of m.found.parts xs) file) cut.0 among))

-- where a file taken is without a fault, it is not said that each has one
not_alone : (copies taken : List (List ℕ)) (shape : PictureShape) (c : Carried) → IsCarried copies taken shape c
    → (file : List ℕ) → Contains taken file → IsFaultless file → c.is_alone ≡ false
not_alone copies taken shape c is file among faultless = by c.is_alone refl
  where
    by : (b : Bool) → c.is_alone ≡ b → c.is_alone ≡ false
    by true e = absurd (is.alone.0 e file among faultless)
    by false e = e

module _ (a : Asked) (copies taken : List (List ℕ)) (shape : PictureShape) (cut : Option (List ℕ)) (file : List ℕ)
    (among : Contains taken file) (faultless : IsFaultless file) where
  abbrev IsSo : Option Carried → Type 0
  IsSo carried = IfSome carried (λ c. IsCarried copies taken shape c × (cut ≡ None))

  -- there a single file that is given is one of those taken
  single_of_taken : (carried : Option Carried) → IsSo carried → (given : Option (List ℕ)) (single : List ℕ) → given ≡ Some single
      → IsSingleOf a taken carried given → IsSingleAsked a.options.file taken given
  single_of_taken None is given single e of = of
  single_of_taken (Some c) is given single e of =
      let none : given ≡ None = of.1 (not_alone copies taken shape c is.0 file among faultless) in
      let no : None ≡ Some single = sym none ∙ e in absurd cc

  among_beside : (promise : Promise) (mended : List MendedFile) → Contains (files_beside promise mended taken) file
  among_beside Held mended = Contains-append_right (map (λ (f : MendedFile). f.bytes) mended) taken file among
  among_beside (Picture printed) mended = among
  among_beside Lines mended = among

  -- and files of which it is one have the numbers
  named_of_taken : (carried : Option Carried) → IsSo carried → (named : List NamedFile) → AreNamedOf a taken carried named
      → (files : List (List ℕ)) × AreNamedAsked a.options.files files named × Contains files file
  named_of_taken None is named of = (taken, of, among)
  named_of_taken (Some c) is named of = (
    files_beside (carried_promise c) c.files taken,
    of.1 (not_alone copies taken shape c is.0 file among faultless),
    among_beside (carried_promise c) c.files,
  )

-- copies gave each other nothing where a cut file was taken
none_with_cut : (carried : Option Carried) (copies taken : List (List ℕ)) (shape : PictureShape) (cut : Option (List ℕ))
    → IfSome carried (λ c. IsCarried copies taken shape c × (cut ≡ None)) → (path : List ℕ) → cut ≡ Some path → carried ≡ None
none_with_cut None copies taken shape cut is path e = refl
none_with_cut (Some c) copies taken shape cut is path e = let f : None ≡ Some path = sym is.1 ∙ e in absurd cc

-- then the picture is what the files taken give
picture_is_given : (a : Asked) (copies : List (List ℕ)) (m : Made) → IsMade a copies m → m.carried ≡ None → m.picture ≡ m.given
picture_is_given a copies m is none = is.picture_is ∙ ap (λ (c : Option Carried). joined a.options.source c m.given) none

-- what the promise stands on
promised : (carried : Option Carried) (ceiling printed : Option ℕ) (f : Found) (is_settled : Bool)
    → promise_with carried ceiling f is_settled ≡ Picture printed
    → (f.is_used_up ≡ false) × (has_some f.choices ≡ true) × (is_settled ≡ true) × (ceiling ≡ printed) × (carried ≡ None)
promised None ceiling printed f is_settled e =
    let p = by f.is_used_up (has_some f.choices) is_settled e in (p.0, p.1, p.2, p.3, refl)
  where
    by : (used some all : Bool)
        → (if used then Lines else (if some then (if all then Picture ceiling else Lines) else Lines)) ≡ Picture printed
        → (used ≡ false) × (some ≡ true) × (all ≡ true) × (ceiling ≡ printed)
    by true some all e = absurd cc
    by false false all e = absurd cc
    by false true false e = absurd cc
    by false true true e = (refl, refl, refl, cc)
promised (Some c) ceiling printed f is_settled e = absurd (by c.is_held c.are_read (are_sound c.codings c.strangers) e)
  where
    by : (held read sound : Bool) → (if held then (if read then (if sound then Held else Lines) else Lines) else Lines) ≡ Picture printed → ⊥
    by false read sound e = cc
    by true false sound e = cc
    by true true false e = cc
    by true true true e = cc

module _ (are_faultless : WholeFilesAreFaultless) (words : List Text) (a : Asked) (desk report faults : List Event)
    (d : DidMake words a desk report faults) where
  abbrev IsTrueFile : WholePicture → List ℕ → Type 0
  IsTrueFile pic file = IsWholeSplice d.made.ceiling (bytes_read d.copies) d.made pic file

  copy_read : 0 < length (bytes_read d.copies)
  copy_read = some_searched a d.copies_read d.copies d.reading d.read (asked_some _ _ _ _ _ _ a d.asks.asks)

  module _ (enough : d.made.found.is_used_up ≡ false) (pic : WholePicture) (file : List ℕ) (is : IsTrueFile pic file) where
    abbrev copies : List (List ℕ)
    copies = bytes_read d.copies

    abbrev f : Found
    f = d.made.found

    came : CameTo (IsSought d.made.ceiling) f.parts f.choices false
    came = subst (CameTo (IsSought d.made.ceiling) f.parts f.choices) enough d.is_made.is_found_for.is_found.came_to

    among : Contains (files_of f.parts f.choices) file
    among =
        came.all refl (length copies) copy_read d.is_made.is_found_for.is_found.are_parts.ways file is.whole.bytes is.splice
        (are_faultless pic file is.whole, is.within)

    splices : splices_in f ≡ files_of f.parts f.choices
    splices = splices_of_all d.made.ceiling copies f file d.is_made.is_found_for.is_found enough among

    taken : Contains (files_taken copies f) file
    taken =
        Contains-append_right copies (splices_in f) file (subst (λ (xs : List (List ℕ)). Contains xs file) (sym splices) among)

    -- the picture is that of the file, where copies gave each other nothing
    is_its_picture : SplicedCopiesGiveNoOther → d.made.carried ≡ None → IsSettled d.made.picture → picture_of d.made.picture ≡ pic
    is_its_picture never none settled =
        let given_is : d.made.picture ≡ d.made.given = picture_is_given a copies d.made d.is_made none in
        let p : PartialPicture = d.made.given in
        let picture : IsPictureOfFiles a.options.source copies (splices_in f) p =
        files_alone a copies d.made d.is_made file d.made.cut refl among in
        ap picture_of given_is ∙ never d.made.ceiling copies f.parts a.options.source p (record {
          some_copy = copy_read;
          are_parts = d.is_made.is_found_for.is_found.are_parts;
          found = f.choices;
          searched = came;
          shape = p.shape;
          shape_is = subst (λ (xs : List (List ℕ)). IsShapeTaken copies xs p.shape) splices picture.shape_is;
          takes = subst (λ (xs : List (List ℕ)). TakesFiles a.options.source (copies ++ xs) (nothing_known p.shape) p)
              splices picture.union_is;
        }) pic is.is_picture file is.whole is.within is.splice (subst IsSettled given_is settled)

    -- the single file is the file, completed
    single_is_it : (whole : List ℕ) → IsCompleted file whole
        → (name single : List ℕ) → a.options.file ≡ Some name → d.made.single ≡ Some single → single ≡ whole
    single_is_it whole completed name single asked found =
        let of_taken : IsSingleAsked a.options.file (files_taken copies f) d.made.single =
        single_of_taken a copies (files_taken copies f) d.made.given.shape d.made.cut file taken (are_faultless pic file is.whole)
        d.made.carried d.is_made.is_carried d.made.single single found d.is_made.is_single in
        let only : IsOnly (files_taken copies f) single =
        subst (λ (o : Option (List ℕ)). IsSingleAsked (Some name) (files_taken copies f) o) found
        (subst (λ (o : Option Text). IsSingleAsked o (files_taken copies f) d.made.single) asked of_taken) in
        sym (only.alone file whole taken (are_faultless pic file is.whole) completed)

    -- the file has a name, completed
    it_is_named : (whole : List ℕ) → IsCompleted file whole
        → (prefix : List ℕ) → a.options.files ≡ Some prefix → length d.made.files < 64 → is_named d.made.files whole ≡ true
    it_is_named whole completed prefix asked few =
        let of_taken =
        named_of_taken a copies (files_taken copies f) d.made.given.shape d.made.cut file taken (are_faultless pic file is.whole)
        d.made.carried d.is_made.is_carried d.made.files d.is_made.are_named in
        is_named_if_few 64 prefix of_taken.0 d.made.files
        (subst (λ (o : Option Text). AreNamedAsked o of_taken.0 d.made.files) asked of_taken.1) few file whole of_taken.2
        (are_faultless pic file is.whole) completed

pub spliced_runs_give_no_other : WholeFilesAreFaultless → SplicedCopiesGiveNoOther → SplicedRunsGiveNoOther
spliced_runs_give_no_other are_faultless never words a desk report faults d printed promises =
    let p = promised d.made.carried d.made.ceiling printed d.made.found d.made.is_settled promises in
    let settled : IsSettled d.made.picture = d.is_made.settled.0 p.2 in
    record {
      of_ceiling = p.3;
      not_cut_off = p.0;
      some_file = p.1;
      settled = settled;
      no_other = λ pic file is.
          is_its_picture are_faultless words a desk report faults d p.0 pic file
          (subst (λ (l : Option ℕ). IsWholeSplice l (bytes_read d.copies) d.made pic file) (sym p.3) is) never p.4 settled;
    }

pub spliced_runs_hand_out_the_file : WholeFilesAreFaultless → SplicedRunsHandOutTheFile
spliced_runs_hand_out_the_file are_faultless words a desk report faults d enough pic part whole is completed = (
  single_is_it are_faultless words a desk report faults d enough pic part is whole completed,
  it_is_named are_faultless words a desk report faults d enough pic part is whole completed,
)

pub spliced_runs_take_the_cut : SplicedRunsTakeTheCut
spliced_runs_take_the_cut words a desk report faults d path is =
    let m : Made = d.made in
    let copies : List (List ℕ) = bytes_read d.copies in
    let cut : IsCutFile m.cut_ceiling m.found path =
    cut_is_lone copies m.found m.cut_ceiling m.lone m.cut path is d.is_made.is_lone d.is_made.is_cut in
    let none : m.carried ≡ None =
    none_with_cut m.carried copies (files_taken copies m.found) m.given.shape m.cut d.is_made.is_carried path is in
    let of_cut : IsPictureOf a.options.source copies (splices_in m.found) (cut_file m.found (Some path)) m.given =
    subst (λ (c : Option (List ℕ)). IsPictureOf a.options.source copies (splices_in m.found) (cut_file m.found c) m.given) is
    d.is_made.is_given in
    subst (λ (p : PartialPicture). WereCut m.cut_ceiling copies m.found.parts path a.options.source p)
    (sym (picture_is_given a copies m d.is_made none)) (record {
      are_parts = d.is_made.is_found_for.is_found.are_parts;
      is_lone = cut.1;
      splices = splices_in m.found;
      takes = of_cut;
    })
