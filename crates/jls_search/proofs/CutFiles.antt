-- What is taken of a cut file.
use Rattle.std.proofs.Common.{◌≡◌, ℕ, List, [], ◌∷◌, ◌++◌, Option, sym, ◌∙◌, subst, inl}
use Rattle.std.specs.List.{Contains}
use Rattle.jls_values.specs.Shape.{PictureShape}
use Rattle.jls_partial.specs.Partial.{PartialPicture, nothing_known}
use Rattle.jls_copy.specs.CopyReads.{CopyReadsUnder}
use Rattle.jls_copy.specs.ReadCopy.{ReadCopy}
use Rattle.jls_marker.specs.declared.profile.Profile.TheVariants.{Wide}
use Rattle.jls_search.specs.Cuts.{TakesNoCut}
use Rattle.jls_search.specs.Seen.{AreSeen}
use Rattle.jls_search.specs.Shapes.{HasFrameOfShape}
use Rattle.jls_search.specs.Stations.{TakesFiles}
use Rattle.jls_search.specs.declared.seen.Seen.{Seen}
use Rattle.jls_search.specs.declared.seen.Seen.TheVariants.{Faultless}
use Rattle.jls_search.proofs.OneFile.{shape_read}
use Rattle.jls_search.proofs.SeenFiles.{file_of}
use Rattle.jls_search.proofs.TakenFiles.{shape_kept, takes_more}

-- a station of its shape took the files, and then it
pub cut_taken : (source : Option ℕ) (files : List (List ℕ)) (cut : List ℕ) (read : ReadCopy) (shape : PictureShape)
    (before after : PartialPicture)
    → CopyReadsUnder Wide cut read → shape ≡ read.partial.shape → TakesFiles source files (nothing_known shape) before
    → TakesFiles source (cut ∷ []) before after
    → HasFrameOfShape after.shape cut × TakesFiles source (files ++ cut ∷ []) (nothing_known after.shape) after
cut_taken source files cut read shape before after reads is taken takes =
    let all = takes_more source files (cut ∷ []) (nothing_known shape) before after taken takes in
    let kept : after.shape ≡ shape = shape_kept source (files ++ cut ∷ []) (nothing_known shape) after all in (
      subst (λ (s : PictureShape). HasFrameOfShape s cut) (sym (kept ∙ is)) (shape_read cut read reads),
      subst (λ (s : PictureShape). TakesFiles source (files ++ cut ∷ []) (nothing_known s) after) (sym kept) all,
    )

-- a file without a fault was seen
pub faultless_seen : (copies splices : List (List ℕ)) (cut : List ℕ) (seen : List Seen) (shape : PictureShape)
    → AreSeen (copies ++ splices) seen
    → Contains seen (Faultless shape) → TakesNoCut copies splices cut
faultless_seen copies splices cut seen shape are some =
    let here = file_of (copies ++ splices) seen (Faultless shape) are some in inl (here.0, here.1, here.2.1)
