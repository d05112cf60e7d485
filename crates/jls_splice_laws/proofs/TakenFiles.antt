-- What the files taken settle.
use Rattle.std.proofs.Common.{◌≡◌, ℕ, ◌<◌, Bool, false, List, [], ◌∷◌, ◌++◌, length, Option, refl, sym, subst, arith, inl, inr}
use Rattle.std.specs.List.{AllByRecursion, Contains}
use Rattle.std.proofs.lemmas.List.Elements.{Contains-append_right}
use Rattle.jls_values.specs.Shape.{PictureShape}
use Rattle.jls_partial.specs.Partial.{PartialPicture}
use Rattle.jls_partial.specs.Status.{IsSettled}
use Rattle.jls_marker.specs.declared.profile.Profile.TheVariants.{Wide}
use Rattle.jls_write.specs.Picture.{picture_of}
use Rattle.jls_headline.specs.Damaged.{EachLineSurvives}
use Rattle.jls_headline.specs.Headline.{SameCopiesHoldTheSame}
use Rattle.jls_headline.specs.LineLaws.{NeverAnotherPicture}
use Rattle.jls_headline.specs.Sources.{copies_of}
use Rattle.jls_headline.specs.Stations.{HoldsExactly, SameCopies}
use Rattle.jls_copy_laws.proofs.Members.{is_first, in_rest, none_in, first_or_rest, all_weaker}
use Rattle.jls_diff.specs.Parts.{Part, HasWays, IsSplice}
use Rattle.jls_search.specs.Faultless.{IsSought}
use Rattle.jls_search.specs.Search.{HasEachSplice, files_of}
use Rattle.jls_search.specs.SearchLaws.{SearchesComeToEachSplice}
use Rattle.jls_search.specs.Shapes.{HasFrameOfShape}
use Rattle.jls_splice_laws.specs.SpliceLaws.{FaultlessSplicesAreTaken, SearchedFilesAreTaken, SearchedSplicesGiveNoOther}
use Rattle.jls_splice_laws.specs.SpliceLaws.{SplicesGiveNoOther, WholeSplicesGiveNoOther, ReadFiles, ReadWideFiles}
use Rattle.jls_splice_laws.specs.WholeFiles.{IsWholeFile}
use Rattle.jls_splice_laws.proofs.HeldFiles.{took_files_holds_exactly}
use Rattle.jls_splice_laws.proofs.SettledFiles.{settled_is_whole}
use Rattle.jls_splice_laws.specs.Taken.{FilesTaken, SearchTaken, AreFilesOfShape, none_left, taken, passed_over}
use Rattle.jls_splice_laws.proofs.WholeFiles.{whole_files_are_faultless, whole_files_survive}

-- a file of the shape is among those that are taken
pub kept_of_shape : (shape : PictureShape) (files more : List (List ℕ)) (file : List ℕ) → AreFilesOfShape shape files more
    → Contains files file → HasFrameOfShape shape file → Contains more file
kept_of_shape shape _ _ file none_left c h = absurd (none_in file c)
kept_of_shape shape _ _ file (taken f files more is rest) c h =
    elim (first_or_rest file f files c) [
      | inl e ↦ subst (Contains (f ∷ more)) e (is_first f more)
      | inr later ↦ in_rest file f more (kept_of_shape shape files more file rest later h)
    ]
kept_of_shape shape _ _ file (passed_over f files more other rest) c h =
    elim (first_or_rest file f files c) [
      | inl e ↦ absurd (other (subst (HasFrameOfShape shape) (sym e) h))
      | inr later ↦ kept_of_shape shape files more file rest later h
    ]

-- each splice that is sought, whatever the number of copies is
found_among : (Sought : List ℕ → Type 0) (count : ℕ) (parts : List Part) (files : List (List ℕ)) → HasEachSplice Sought parts files
    → AllByRecursion (HasWays count) parts
    → (bytes : List ℕ) → AllByRecursion (λ b. b < 256) bytes → IsSplice count parts bytes → Sought bytes → Contains files bytes
found_among Sought count [] files each ways bytes low is sought = each 1 (omega arith) tt bytes low is sought
found_among Sought count (p ∷ parts) files each ways bytes low is sought =
    let l = is.1 in each count (omega (arith, l)) ways bytes low is sought

pub faultless_splices_are_taken : FaultlessSplicesAreTaken
faultless_splices_are_taken ceiling copies parts shape files t bytes low is sought =
    let f = t.files_taken in
    let among : Contains (copies ++ f.found) bytes =
    Contains-append_right copies f.found bytes
    (found_among (IsSought ceiling) (length copies) parts f.found t.each f.are_parts.ways bytes low is sought) in
    kept_of_shape shape (copies ++ f.found) files bytes f.of_shape among (f.shape_is.of_faultless bytes among sought.0)

same_as_itself : (files : List (List ℕ)) → SameCopies files files
same_as_itself files = (λ copy m. (copy, m, inl refl), λ copy m. (copy, m, inl refl))

pub splices_give_no_other : NeverAnotherPicture → SameCopiesHoldTheSame → SplicesGiveNoOther
splices_give_no_other never same copies parts shape files t station (read, collected, are) = (
  subst (HoldsExactly station) are (same station station read read collected collected refl (same_as_itself (copies_of read))).0,
  λ pic is each settled. never pic is station read collected (subst (EachLineSurvives pic) (sym are) each) settled,
)

pub whole_splices_give_no_other : NeverAnotherPicture → WholeSplicesGiveNoOther
whole_splices_give_no_other never ceiling copies parts shape files t pic is file whole within splice =
    record { wide = wide; as_copies = as_copies }
  where
    inside : Contains files file
    inside =
        faultless_splices_are_taken ceiling copies parts shape files t file whole.bytes splice
        (whole_files_are_faultless pic file whole, within)

    wide : (station : PartialPicture) → ReadWideFiles station files → IsSettled station → picture_of station ≡ pic
    wide station (read, took, are) settled =
        settled_is_whole station read (took_files_holds_exactly Wide station read took) pic is file whole
        (subst (λ (fs : List (List ℕ)). Contains fs file) (sym are) inside) settled

    as_copies : IsWholeFile pic file → (station : PartialPicture) → ReadFiles station files → IsSettled station → picture_of station ≡ pic
    as_copies line station (read, collected, are) settled =
        let each : EachLineSurvives pic files =
        λ c y l k. (file, inside, whole_files_survive pic file line.bytes line.reads (line.course, line.is_course, line.each) c y l k) in
        never pic is station read collected (subst (EachLineSurvives pic) (sym are) each) settled

-- Of a search ------------------------------------------------------------------------------------------------------

files_taken : (ceiling : Option ℕ) (copies : List (List ℕ)) (parts : List Part) (found : List (List ℕ)) (is_used_up : Bool)
    (shape : PictureShape)
    (files : List (List ℕ)) → SearchesComeToEachSplice → SearchTaken ceiling copies parts found is_used_up shape files
    → (f : FilesTaken copies parts shape files) × (f.found ≡ files_of parts found)
files_taken ceiling copies parts found is_used_up shape files law t = (
  record {
    are_parts = t.are_parts;
    found = files_of parts found;
    are_splices = all_weaker (λ file. IsSplice (length copies) parts file × IsSought ceiling file) (IsSplice (length copies) parts)
        (files_of parts found)
        (λ file h. h.0) (law ceiling copies parts t.are_parts t.some_copy found is_used_up t.came_to).0;
    shape_is = t.shape_is;
    of_shape = t.of_shape;
  },
  refl,
)

pub searched_files_are_taken : SearchesComeToEachSplice → SearchedFilesAreTaken
searched_files_are_taken law ceiling copies parts found is_used_up shape files t =
    let f = files_taken ceiling copies parts found is_used_up shape files law t in
    (f.0, λ enough. record { files_taken = f.0; each = subst (HasEachSplice (IsSought ceiling) parts) (sym f.1) (t.came_to.all enough) })

pub searched_splices_give_no_other : SearchesComeToEachSplice → NeverAnotherPicture → SearchedSplicesGiveNoOther
searched_splices_give_no_other law never ceiling copies parts found shape files t pic is file whole within splice =
    let all = (searched_files_are_taken law ceiling copies parts found false shape files t).1 refl in (
      faultless_splices_are_taken ceiling copies parts shape files all file whole.bytes splice
          (whole_files_are_faultless pic file whole, within),
      whole_splices_give_no_other never ceiling copies parts shape files all pic is file whole within splice,
    )
