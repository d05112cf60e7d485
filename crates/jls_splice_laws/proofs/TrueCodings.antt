-- Mended files have true files of a picture with their skeletons, where the copies of each coding are of one file of it.
use Rattle.std.proofs.Common.{ℕ, List, [], ◌∷◌}
use Rattle.std.specs.List.{AllByRecursion}
use Rattle.jls_values.proofs.Lists.{all_at}
use Rattle.jls_held.specs.MendedFiles.{MendedFile}
use Rattle.jls_held.specs.Judging.{EditedCopy, IsMendedOf, AreMendedOf}
use Rattle.jls_carry_laws.specs.TrueFiles.{PictureLines, IsTrueFile, HasSkeleton, HaveTrueFilesOfTheirSkeletons}
use Rattle.jls_carry_laws.specs.Laws.{JudgedFilesHaveTrueBytes}
use Rattle.jls_splice_laws.specs.CarryLaws.{IsCodingOf, AreCodingsOf}

module _ (law : JudgedFilesHaveTrueBytes) (picture : PictureLines) (copies : List (List ℕ)) where
  -- a mended file has a true file with its skeleton
  abbrev HasTrueFile : MendedFile → Type 0
  HasTrueFile f = (bytes : List ℕ) × (t : IsTrueFile picture f bytes) × HasSkeleton t.course f

  has_true_file : (coding : List EditedCopy) (f : MendedFile) → IsMendedOf copies coding f → IsCodingOf picture copies coding f
      → HasTrueFile f
  has_true_file coding f mended is = (
    is.truth,
    record {
      are_bytes = is.are_bytes;
      has_held = (law copies coding f is.truth mended is.each_copy).0;
      course = is.course;
      is_course = is.is_course;
      each = is.each_piece;
    },
    is.skeleton,
  )

  each_has : (codings : List (List EditedCopy)) (files : List MendedFile) → AreMendedOf copies codings files
      → AreCodingsOf picture copies codings files → AllByRecursion HasTrueFile files
  each_has [] [] mended are = tt
  each_has [] (f ∷ files) mended are = absurd mended
  each_has (coding ∷ codings) [] mended are = tt
  each_has (coding ∷ codings) (f ∷ files) mended are =
      (has_true_file coding f mended.0 are.0, each_has codings files mended.1 are.1)

  pub have_true_files : (codings : List (List EditedCopy)) (files : List MendedFile) → AreMendedOf copies codings files
      → AreCodingsOf picture copies codings files → HaveTrueFilesOfTheirSkeletons picture files
  have_true_files codings files mended are = λ f among. all_at HasTrueFile files f (each_has codings files mended are) among
