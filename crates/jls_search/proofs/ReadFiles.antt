-- What is kept of files that were read, one after the other.
use Rattle.std.proofs.Common.{◌≡◌, ℕ, List, [], ◌∷◌, ◌++◌, Option, Some, None, refl, sym, subst}
use Rattle.std.specs.List.{AllByRecursion}
use Rattle.jls_values.specs.Shape.{PictureShape}
use Rattle.jls_values.proofs.Lists.{all_more}
use Rattle.jls_partial.specs.Partial.{PartialPicture, nothing_known}
use Rattle.jls_search.specs.Reading.{HasTakenFiles, ReadsMore}
use Rattle.jls_search.specs.Seen.{AreSeen, IsSeen}
use Rattle.jls_search.specs.Shapes.{HasNoFrame}
use Rattle.jls_search.specs.Stations.{Give, no_file, gives_nothing, TakesFiles}
use Rattle.jls_search.specs.declared.reading_files.FilesRead.{FilesRead}
use Rattle.jls_search.specs.declared.seen.Seen.{Seen}
use Rattle.jls_search.proofs.OneFile.{no_shape}
use Rattle.jls_search.proofs.SeenFiles.{seen_more}
use Rattle.jls_search.proofs.TakenFiles.{passed_over, shape_kept, takes_more}

module _ (source : Option ℕ) where
  -- Stations -------------------------------------------------------------------------------------------------------

  -- files without a frame give nothing to a station of any shape
  nothing_given : (shape : PictureShape) (files : List (List ℕ)) → AllByRecursion HasNoFrame files → Give source shape files []
  nothing_given shape [] none = no_file
  nothing_given shape (file ∷ files) none =
      gives_nothing file files [] (no_shape shape file none.0) (nothing_given shape files none.1)

  -- so a station may begin after them
  pub begins_late : (files : List (List ℕ)) (shape : PictureShape) (station : PartialPicture) → station ≡ nothing_known shape
      → AllByRecursion HasNoFrame files → HasTakenFiles source files (Some station)
  begins_late files shape station is none =
      subst (λ (p : PartialPicture). TakesFiles source files (nothing_known p.shape) p) (sym is)
      (record { given = []; give = nothing_given shape files none; union_is = refl })

  -- a file without a frame changes nothing
  passes_over : (files : List (List ℕ)) (file : List ℕ) (station : Option PartialPicture) → HasNoFrame file
      → HasTakenFiles source files station → HasTakenFiles source (files ++ file ∷ []) station
  passes_over files file None none taken = all_more HasNoFrame files file taken none
  passes_over files file (Some station) none taken =
      takes_more source files (file ∷ []) (nothing_known station.shape) station station taken
      (passed_over source station file (no_shape station.shape file none))

  -- a station takes one file more
  takes_one_more : (files : List (List ℕ)) (file : List ℕ) (old new : PartialPicture) → HasTakenFiles source files (Some old)
      → TakesFiles source (file ∷ []) old new → HasTakenFiles source (files ++ file ∷ []) (Some new)
  takes_one_more files file old new taken takes =
      subst (λ (shape : PictureShape). TakesFiles source (files ++ file ∷ []) (nothing_known shape) new)
      (sym (shape_kept source (file ∷ []) old new takes))
      (takes_more source files (file ∷ []) (nothing_known old.shape) old new taken takes)

  -- One file -------------------------------------------------------------------------------------------------------

  module _ (file : List ℕ) (s : Seen) (is : IsSeen file s) (old new : FilesRead) (items : new.seen.items ≡ old.seen.items ++ s ∷ []) where
    one_seen : (files : List (List ℕ)) → AreSeen files old.seen.items → AreSeen (files ++ file ∷ []) new.seen.items
    one_seen files are = subst (AreSeen (files ++ file ∷ [])) (sym items) (seen_more files old.seen.items file s are is)

    -- it has a frame, and a station takes it
    pub with_frame : (before after : PartialPicture)
        → ((files : List (List ℕ)) → HasTakenFiles source files old.station → HasTakenFiles source files (Some before))
        → TakesFiles source (file ∷ []) before after → new.station ≡ Some after → ReadsMore source (file ∷ []) old new
    with_frame before after begun takes is_after files read = record {
      seen = one_seen files read.seen;
      taken = subst (HasTakenFiles source (files ++ file ∷ [])) (sym is_after)
          (takes_one_more files file before after (begun files read.taken) takes);
    }

    -- it has none, and the station stays
    pub without_frame : HasNoFrame file → new.station ≡ old.station → ReadsMore source (file ∷ []) old new
    without_frame none stays files read = record {
      seen = one_seen files read.seen;
      taken = subst (HasTakenFiles source (files ++ file ∷ [])) (sym stays) (passes_over files file old.station none read.taken);
    }
