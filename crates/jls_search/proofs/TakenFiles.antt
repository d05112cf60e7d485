-- What a station takes of files, one after the other.
use Rattle.std.proofs.Common.{◌≡◌, ℕ, true, false, List, [], ◌∷◌, ◌++◌, Option, Some, None, refl, sym, ap, ◌∙◌, subst, ◌+◌, ◌<◌, length}
use Rattle.std.proofs.Common.{take, Vec, Global, Bor}
use Rattle.std.specs.Prelude.{get_or, IfSome, fold}
use Rattle.std.proofs.lemmas.List.Sums.{fold-append}
use Rattle.jls_values.specs.Shape.{PictureShape}
use Rattle.jls_values.specs.SameShape.{same_shape}
use Rattle.jls_partial.specs.Partial.{PartialPicture, union, has_same_shape}
use Rattle.jls_partial.specs.PartialLaws.{one_shape, shape_itself}
use Rattle.jls_copy.specs.CopyReads.{CopyReadsUnder, CopyGivesNoneUnder}
use Rattle.jls_copy.specs.ReadCopy.{ReadCopy}
use Rattle.jls_copy.specs.declared.reader.CopyFault.TheVariants.{NoPicture}
use Rattle.jls_marker.specs.declared.fault.MarkerFault.{MarkerFault}
use Rattle.jls_station.specs.Given.{marked}
use Rattle.jls_marker.specs.SegmentLaws.{AreBytes}
use Rattle.jls_marker.specs.declared.profile.Profile.TheVariants.{Wide}
use Rattle.jls_station.proofs.Marked.{marked_shape}
use Rattle.jls_search.specs.Shapes.{HasFrameOfShape}
use Rattle.jls_search.specs.Stations.{Give, no_file, gives, gives_nothing, TakesFiles}
use Rattle.jls_diff.specs.Parts.{Part}
use Rattle.jls_diff.specs.PartsOf.{bytes_of}
use Rattle.jls_search.specs.Choices.{prefix_of}
use Rattle.jls_search.specs.Search.{files_of, lists_of}
use Rattle.jls_search.proofs.Members.{map_one_more, splices_one_more}
use Rattle.jls_search.proofs.OneFile.{one_shape_of, no_shape, shape_read}

-- Files in turn ----------------------------------------------------------------------------------------------------

fold_shape : (old : PartialPicture) (given : List PartialPicture) → (fold union old given).shape ≡ old.shape
fold_shape old [] = refl
fold_shape old (p ∷ ps) = fold_shape (union old p) ps

give_more : (source : Option ℕ) (shape : PictureShape) (files more : List (List ℕ)) (given others : List PartialPicture)
    → Give source shape files given → Give source shape more others → Give source shape (files ++ more) (given ++ others)
give_more source shape _ more _ others no_file k = k
give_more source shape _ more _ others (gives file read files given low reads is rest) k =
    gives file read (files ++ more) (given ++ others) low reads is (give_more source shape files more given others rest k)
give_more source shape _ more _ others (gives_nothing file files given not rest) k =
    gives_nothing file (files ++ more) (given ++ others) not (give_more source shape files more given others rest k)

module _ (source : Option ℕ) where
  -- the shape stays
  pub shape_kept : (files : List (List ℕ)) (old new : PartialPicture) → TakesFiles source files old new → new.shape ≡ old.shape
  shape_kept files old new t = ap (λ (p : PartialPicture). p.shape) t.union_is ∙ fold_shape old t.given

  pub takes_none : (station : PartialPicture) → TakesFiles source [] station station
  takes_none station = record { given = []; give = no_file; union_is = refl }

  -- files, and more of them
  pub takes_more : (files more : List (List ℕ)) (old between new : PartialPicture) → TakesFiles source files old between
      → TakesFiles source more between new → TakesFiles source (files ++ more) old new
  takes_more files more old between new h k = record {
    given = h.given ++ k.given;
    give = give_more source old.shape files more h.given k.given h.give
        (subst (λ s. Give source s more k.given) (shape_kept files old between h) k.give);
    union_is = k.union_is ∙ ap (λ (p : PartialPicture). fold union p k.given) h.union_is ∙ sym (fold-append union old h.given k.given);
  }

-- loops over copies and over splices
module _ (source : Option ℕ) (old between new : PartialPicture) where
  pub copies_taken : (copies : List (Bor (List ℕ))) (i : ℕ) (d : Bor (List ℕ)) → i < length copies
      → TakesFiles source (bytes_of (take i copies)) old between → TakesFiles source ((get_or copies i d).now ∷ []) between new
      → TakesFiles source (bytes_of (take (i + 1) copies)) old new
  copies_taken copies i d l h k =
      subst (λ fs. TakesFiles source fs old new) (sym (map_one_more (λ (slice : Bor (List ℕ)). slice.now) copies i d l))
      (takes_more source (bytes_of (take i copies)) ((get_or copies i d).now ∷ []) old between new h k)

  pub splices_taken : (ps : List Part) (vs : List (Vec ℕ Global)) (i : ℕ) (v : Vec ℕ Global) → i < length vs → v ≡ get_or vs i v
      → TakesFiles source (files_of ps (lists_of (take i vs))) old between → TakesFiles source (prefix_of ps v.items ∷ []) between new
      → TakesFiles source (files_of ps (lists_of (take (i + 1) vs))) old new
  splices_taken ps vs i v l at h k =
      subst (λ fs. TakesFiles source fs old new) (sym (splices_one_more ps vs i v l at))
      (takes_more source (files_of ps (lists_of (take i vs))) (prefix_of ps v.items ∷ []) old between new h k)

-- One file ---------------------------------------------------------------------------------------------------------

module _ (source : Option ℕ) (old : PartialPicture) where
  -- a file that gives nothing
  pub passed_over : (file : List ℕ) → (HasFrameOfShape old.shape file → ⊥) → TakesFiles source (file ∷ []) old old
  passed_over file not = record { given = []; give = gives_nothing file [] [] not no_file; union_is = refl }

  pub without_frame : (reader : Option (List ℕ)) (f : MarkerFault) (n : ℕ)
      → IfSome reader (λ file. CopyGivesNoneUnder Wide file (NoPicture f n))
      → IfSome reader (λ file. AreBytes file → TakesFiles source (file ∷ []) old old)
  without_frame None f n none = tt
  without_frame (Some file) f n none = λ _. passed_over file (no_shape old.shape file (none.0, none.1, none.2))

  module _ (read : ReadCopy) (partial new : PartialPicture) (is : partial ≡ marked source read.partial) where
    shape_is : partial.shape ≡ read.partial.shape
    shape_is = ap (λ (p : PartialPicture). p.shape) is ∙ marked_shape source read.partial

    pub taken_in : has_same_shape old partial ≡ true → new ≡ union old partial
        → (file : List ℕ) → AreBytes file → CopyReadsUnder Wide file read → TakesFiles source (file ∷ []) old new
    taken_in same becomes file low reads = record {
      given = marked source read.partial ∷ [];
      give = gives file read [] [] low reads (sym shape_is ∙ sym (one_shape old.shape partial.shape same)) no_file;
      union_is = becomes ∙ ap (union old) is;
    }

    pub other_shape : has_same_shape old partial ≡ false → new ≡ old
        → (file : List ℕ) → AreBytes file → CopyReadsUnder Wide file read → TakesFiles source (file ∷ []) old new
    other_shape differs stays file low reads =
        subst (λ (p : PartialPicture). TakesFiles source (file ∷ []) old p) (sym stays) (passed_over file not)
      where
        not : HasFrameOfShape old.shape file → ⊥
        not h =
            let same : partial.shape ≡ old.shape = shape_is
            ∙ one_shape_of read.partial.shape old.shape file (shape_read file read reads) h in
            let yes : same_shape old.shape partial.shape ≡ true =
            subst (λ (s : PictureShape). same_shape old.shape s ≡ true) (sym same) (shape_itself old.shape) in
            let both : true ≡ false = sym yes ∙ differs in cc
