-- What a station holds that took files.
use Rattle.std.proofs.Common.{◌≡◌, ℕ, Bool, true, List, [], ◌∷◌, ◌++◌, Option, Some, refl, sym, ap, ◌∙◌, subst, append_assoc}
use Rattle.std.specs.Prelude.{fold, ◌||◌, ◌↔◌}
use Rattle.std.specs.List.{AllByRecursion, Contains}
use Rattle.std.proofs.lemmas.List.{append-nil}
use Rattle.std.proofs.lemmas.List.Elements.{Contains-append_right}
use Rattle.jls_values.specs.Join.{IsBetween}
use Rattle.jls_values.specs.OrderedSet as set
use Rattle.jls_values.specs.OrderedSetLaws.{contains-empty}
use Rattle.jls_values.specs.SameShape.{same_shape}
use Rattle.jls_values.specs.Shape.{PictureShape}
use Rattle.jls_partial.specs.Marks.{mark_cmp}
use Rattle.jls_partial.specs.Partial.{PartialPicture, nothing_known, has_same_shape, union}
use Rattle.jls_partial.specs.PartialLaws.{one_shape, shape_itself}
use Rattle.jls_partial.specs.Reading.{Reading, reading_cmp}
use Rattle.jls_marker.specs.declared.profile.Profile.{Profile}
use Rattle.jls_marker.specs.declared.profile.Profile.TheVariants.{Strict, Wide}
use Rattle.jls_station.specs.Given.{marked}
use Rattle.jls_station.proofs.Marked.{marked_shape, marked_readings}
use Rattle.jls_copy_laws.proofs.Members.{is_first, none_in, in_map, of_map, all_at, all_prefix, all_append}
use Rattle.jls_headline.specs.Sources.{SourcedCopy, sourced_copy, copies_of}
use Rattle.jls_headline.specs.TookFiles.{IsReadUnder, TookFiles, no_file_taken, file_taken, file_refused, file_ran_out}
use Rattle.jls_headline.specs.TookFiles.{TookFilesFrom, StrictFilesAreCollected}
use Rattle.jls_headline.specs.Stations.{AreAmong}
use Rattle.jls_headline.proofs.Stations.{is_read, union_read}
use Rattle.jls_headline.proofs.SourcedStations.{Mark, is_marked, union_marked}
use Rattle.jls_headline.proofs.Unions.{GivenBy, Holds, none_exactly, one_exactly, at_first, in_the_end, both_collected, part_collected}
use Rattle.jls_headline.proofs.Unions.{between_keeps, between_only}
use Rattle.jls_search.specs.Stations.{Give, no_file, gives, gives_nothing}
use Rattle.jls_search.specs.Shapes.{HasFrameOfShape}
use Rattle.jls_search.proofs.OneFile.{shape_read}
use Rattle.jls_splice_laws.specs.ProfileFiles.{HasShapeUnder, GivesReadingUnder, GivesFrom, ReadingsUnder, IsByLine}
use Rattle.jls_splice_laws.specs.ProfileFiles.{HoldsExactlyBy, TookFilesHoldsExactly, FilesByLineAreCollected}
use Rattle.jls_splice_laws.specs.Taken.{AreFilesOfShape, none_left, taken, passed_over}
use Rattle.jls_splice_laws.specs.SplicingLaws.{under, FilesAreHeld}
use Rattle.jls_splice_laws.proofs.FileReadings.{has_shape_read, file_gives, file_gives_marks}
use Rattle.jls_splice_laws.proofs.ProfileFiles.{read_as_copy}

-- Exactly what files give ----------------------------------------------------------------------------------------------

copies_of_both : (files more : List SourcedCopy) → copies_of (files ++ more) ≡ copies_of files ++ copies_of more
copies_of_both [] more = refl
copies_of_both (file ∷ files) more = ap (λ (bytes : List (List ℕ)). file.bytes ∷ bytes) (copies_of_both files more)

module _ (profile : Profile) where
  abbrev GivesFile : SourcedCopy → Reading → Type 0
  GivesFile file r = GivesReadingUnder profile file.bytes r

  abbrev GivesMark : SourcedCopy → Mark → Type 0
  GivesMark file m = GivesFrom profile file m.0 m.1

  -- The files have the shape. What they give is held, and nothing else but what those can have left for which memory ran out
  record After (p : PartialPicture) (files over : List SourcedCopy) : Type 0 where
    shapes : AllByRecursion (HasShapeUnder profile p.shape) (copies_of files)
    readings : Holds GivesFile is_read union_read p files over
    marks : Holds GivesMark is_marked union_marked p files over

  after_none : (shape : PictureShape) → After (nothing_known shape) [] []
  after_none shape =
      let none : PartialPicture = nothing_known shape in
      record {
        shapes = tt;
        readings = at_first GivesFile is_read union_read none []
            (none_exactly GivesFile is_read union_read none (contains-empty reading_cmp));
        marks = at_first GivesMark is_marked union_marked none []
            (none_exactly GivesMark is_marked union_marked none (contains-empty (mark_cmp reading_cmp)));
      }

  after_one : (file : SourcedCopy) (p : PartialPicture) → IsReadUnder profile file p → After p (file ∷ []) []
  after_one file p r =
      let given : PartialPicture = marked file.source r.read.partial in
      subst (λ (q : PartialPicture). After q (file ∷ []) []) (sym r.partial_is) (record {
        shapes = (
          subst (λ (s : PictureShape). HasShapeUnder profile s file.bytes) (sym (marked_shape file.source r.read.partial))
              (has_shape_read file.bytes r.are_bytes r.read r.reads),
          tt,
        );
        readings = at_first GivesFile is_read union_read given (file ∷ [])
            (one_exactly GivesFile is_read union_read given file (λ reading.
            subst (λ (rs : set.OrderedSet reading_cmp). (set.contains rs reading ≡ true) ↔ GivesFile file reading)
            (sym (marked_readings file.source r.read.partial)) (file_gives file.bytes r.are_bytes r.read r.reads reading)));
        marks = at_first GivesMark is_marked union_marked given (file ∷ [])
            (one_exactly GivesMark is_marked union_marked given file
            (file_gives_marks file.bytes r.are_bytes r.read r.reads file.source));
      })

  after_taken : (p q : PartialPicture) (files over : List SourcedCopy) (file : SourcedCopy) → has_same_shape p q ≡ true
      → After p files over → After q (file ∷ []) []
      → After (union p q) (files ++ file ∷ []) over
  after_taken p q files over file same h k = record {
    shapes = subst (AllByRecursion (HasShapeUnder profile p.shape)) (sym (copies_of_both files (file ∷ [])))
        (all_append (HasShapeUnder profile p.shape) (copies_of files) (file.bytes ∷ []) h.shapes
        (subst (λ (s : PictureShape). AllByRecursion (HasShapeUnder profile s) (file.bytes ∷ [])) (sym (one_shape p.shape q.shape same))
        k.shapes));
    readings = subst (Holds GivesFile is_read union_read (union p q) (files ++ file ∷ [])) (append-nil over)
        (both_collected GivesFile is_read union_read p q files over (file ∷ []) [] h.readings k.readings);
    marks = subst (Holds GivesMark is_marked union_marked (union p q) (files ++ file ∷ [])) (append-nil over)
        (both_collected GivesMark is_marked union_marked p q files over (file ∷ []) [] h.marks k.marks);
  }

  after_ran_out : (p q new : PartialPicture) (files over : List SourcedCopy) (file : SourcedCopy) → IsBetween union p new (union p q)
      → After p files over → After q (file ∷ []) []
      → After new files (over ++ file ∷ [])
  after_ran_out p q new files over file between h k = record {
    shapes = subst (λ (s : PictureShape). AllByRecursion (HasShapeUnder profile s) (copies_of files))
        (ap (λ (z : PartialPicture). z.shape) between.0) h.shapes;
    readings = part_collected GivesFile is_read union_read p q new files over (file ∷ []) [] h.readings k.readings
        (between_keeps GivesFile is_read union_read p q new between) (between_only GivesFile is_read union_read p q new between);
    marks = part_collected GivesMark is_marked union_marked p q new files over (file ∷ []) [] h.marks k.marks
        (between_keeps GivesMark is_marked union_marked p q new between) (between_only GivesMark is_marked union_marked p q new between);
  }

  after : (station : PartialPicture) (files over : List SourcedCopy) → TookFiles profile station files over → After station files over
  after _ _ _ (no_file_taken shape station is) = subst (λ (p : PartialPicture). After p [] []) (sym is) (after_none shape)
  after _ _ _ (file_taken old new p files over file took read same is) =
      subst (λ (q : PartialPicture). After q (files ++ file ∷ []) over) (sym is)
      (after_taken old p files over file same (after old files over took) (after_one file p read))
  after _ _ _ (file_refused old new files over took is) =
      subst (λ (q : PartialPicture). After q files over) (sym is) (after old files over took)
  after _ _ _ (file_ran_out old new p files over file took read between) =
      after_ran_out old p new files over file between (after old files over took) (after_one file p read)

  -- one of these files gives it
  of_bytes : (files : List SourcedCopy) (r : Reading) → ReadingsUnder profile (copies_of files) r
      → GivenBy GivesFile is_read union_read files r
  of_bytes files r (bytes, c, g) =
      let from = of_map (λ (file : SourcedCopy). file.bytes) files bytes c in
      (from.0, from.1, subst (λ x. GivesReadingUnder profile x r) (sym from.2) g)

  to_bytes : (files : List SourcedCopy) (r : Reading) → GivenBy GivesFile is_read union_read files r
      → ReadingsUnder profile (copies_of files) r
  to_bytes files r (file, c, g) = (file.bytes, in_map (λ (file : SourcedCopy). file.bytes) files file c, g)

-- what files give of which each is among others, these give too
given_too : {M : Type 0} (Gives : SourcedCopy → M → Type 0) (contains : PartialPicture → M → Bool)
    (union_contains : (p q : PartialPicture) (m : M) → contains (union p q) m ≡ (contains p m || contains q m))
    (over files : List SourcedCopy) → AreAmong (λ file other. file ≡ other) over files
    → (m : M) → GivenBy Gives contains union_contains over m → GivenBy Gives contains union_contains files m
given_too Gives contains union_contains over files among m (file, c, g) =
    let there = among file c in
    (there.0, there.1, subst (λ x. Gives x m) there.2 g)

pub took_files_holds_exactly : TookFilesHoldsExactly
took_files_holds_exactly profile station files (over, took, among) =
    let h = after profile station files over took in
    let readings = in_the_end (GivesFile profile) is_read union_read station files over h.readings
    (given_too (GivesFile profile) is_read union_read over files among) in
    let marks = in_the_end (GivesMark profile) is_marked union_marked station files over h.marks
    (given_too (GivesMark profile) is_marked union_marked over files among) in
    record {
      are_files = h.shapes;
      readings = λ r. (λ x. to_bytes profile files r ((readings r).0 x), λ g. (readings r).1 (of_bytes profile files r g));
      sources = λ r source. marks (r, source);
    }

-- Files by line --------------------------------------------------------------------------------------------------------

-- of files by line, with one more behind them
before_last : (files : List SourcedCopy) (file : SourcedCopy) → AllByRecursion IsByLine (copies_of (files ++ file ∷ []))
    → AllByRecursion IsByLine (copies_of files) × IsByLine file.bytes
before_last files file lines =
    let parts : AllByRecursion IsByLine (copies_of files ++ file.bytes ∷ []) =
    subst (AllByRecursion IsByLine) (copies_of_both files (file ∷ [])) lines in (
      all_prefix IsByLine (copies_of files) (file.bytes ∷ []) parts,
      all_at IsByLine (copies_of files ++ file.bytes ∷ []) file.bytes parts
          (Contains-append_right (copies_of files) (file.bytes ∷ []) file.bytes (is_first file.bytes [])),
    )

read_strictly : (file : SourcedCopy) (p : PartialPicture) → IsByLine file.bytes → IsReadUnder Wide file p → IsReadUnder Strict file p
read_strictly file p line read = record {
  are_bytes = read.are_bytes;
  read = read.read;
  reads = read_as_copy file.bytes line read.read read.reads;
  partial_is = read.partial_is;
}

strictly : (station : PartialPicture) (files over : List SourcedCopy) → TookFiles Wide station files over
    → AllByRecursion IsByLine (copies_of files) → AllByRecursion IsByLine (copies_of over)
    → TookFiles Strict station files over
strictly _ _ _ (no_file_taken shape station is) lines more = no_file_taken shape station is
strictly _ _ _ (file_taken old new p files over file took read same is) lines more =
    let parts = before_last files file lines in
    file_taken old new p files over file (strictly old files over took parts.0 more) (read_strictly file p parts.1 read) same is
strictly _ _ _ (file_refused old new files over took is) lines more =
    file_refused old new files over (strictly old files over took lines more) is
strictly _ _ _ (file_ran_out old new p files over file took read between) lines more =
    let parts = before_last over file more in
    file_ran_out old new p files over file (strictly old files over took lines parts.0) (read_strictly file p parts.1 read) between

pub files_by_line_are_collected : StrictFilesAreCollected → FilesByLineAreCollected
files_by_line_are_collected law station files over took lines more known =
    law station files over (strictly station files over took lines more) known

-- where memory ran out for none
pub took_alone : (profile : Profile) (station : PartialPicture) (files : List SourcedCopy) → TookFiles profile station files []
    → TookFilesFrom profile station files
took_alone profile station files took = ([], took, λ file c. absurd (none_in file c))

-- What `settle_files` gives --------------------------------------------------------------------------------------------

record Read (source : Option ℕ) (shape : PictureShape) (files : List (List ℕ)) (given : List PartialPicture) : Type 0 where
  files_given : List (List ℕ)
  of_shape : AreFilesOfShape shape files files_given
  took : (old : PartialPicture) (before : List SourcedCopy) → old.shape ≡ shape → TookFiles Wide old before []
      → TookFiles Wide (fold union old given) (before ++ under source files_given) []

read_files : (source : Option ℕ) (shape : PictureShape) (files : List (List ℕ)) (given : List PartialPicture)
    → Give source shape files given → Read source shape files given
read_files source shape _ _ no_file = record {
  files_given = [];
  of_shape = none_left;
  took = λ old before e h. subst (λ (xs : List SourcedCopy). TookFiles Wide old xs []) (sym (append-nil before)) h;
}
read_files source shape _ _ (gives file read files given low reads is rest) =
    let p : PartialPicture = marked source read.partial in
    let one : SourcedCopy = sourced_copy source file in
    let r = read_files source shape files given rest in
    record {
      files_given = file ∷ r.files_given;
      of_shape = taken file files r.files_given (subst (λ s. HasFrameOfShape s file) is (shape_read file read reads)) r.of_shape;
      took = λ old before e h.
          let same : has_same_shape old p ≡ true =
          subst (λ (s : PictureShape). same_shape old.shape s ≡ true) (sym (marked_shape source read.partial ∙ is ∙ sym e))
          (shape_itself old.shape) in
          subst (λ (xs : List SourcedCopy). TookFiles Wide (fold union (union old p) given) xs [])
          (append_assoc before (one ∷ []) (under source r.files_given))
          (r.took (union old p) (before ++ one ∷ []) e
          (file_taken old (union old p) p before [] one h
          (record { are_bytes = low; read = read; reads = reads; partial_is = refl }) same refl));
    }
read_files source shape _ _ (gives_nothing file files given not rest) =
    let r = read_files source shape files given rest in
    record { files_given = r.files_given; of_shape = passed_over file files r.files_given not r.of_shape; took = r.took }

-- the files alone
pub files_alone : (source : Option ℕ) (files : List (List ℕ)) → copies_of (under source files) ≡ files
files_alone source [] = refl
files_alone source (file ∷ files) = ap (λ fs. file ∷ fs) (files_alone source files)

pub files_are_held : FilesAreHeld
files_are_held source shape files station t =
    let r = read_files source shape files t.given t.give in
    let took : TookFiles Wide station (under source r.files_given) [] =
    subst (λ (p : PartialPicture). TookFiles Wide p (under source r.files_given) []) (sym t.union_is)
    (r.took (nothing_known shape) [] refl (no_file_taken shape (nothing_known shape) refl)) in
    record {
      taken = r.files_given;
      of_shape = r.of_shape;
      read = took;
      exactly = took_files_holds_exactly Wide station (under source r.files_given)
          (took_alone Wide station (under source r.files_given) took);
    }
