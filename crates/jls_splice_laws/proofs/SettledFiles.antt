-- What a station settles that took an undamaged file.
use Rattle.std.proofs.Common.{◌≡◌, ℕ, ◌<◌, true, List, length, refl, sym, subst}
use Rattle.std.specs.List.{Contains}
use Rattle.jls_values.specs.OrderedSet as set
use Rattle.jls_values.specs.Shape.{PictureShape}
use Rattle.jls_partial.specs.Partial.{PartialPicture, readings_at}
use Rattle.jls_partial.specs.Status.{IsSettled}
use Rattle.jls_marker.specs.declared.profile.Profile.TheVariants.{Wide}
use Rattle.jls_write.specs.Picture.{WholePicture, line_of, picture_of}
use Rattle.jls_write.specs.WholePictures.{IsPicture}
use Rattle.jls_copy_laws.proofs.Members.{all_at}
use Rattle.jls_headline.specs.Damaged.{picture_reading}
use Rattle.jls_headline.specs.Sources.{SourcedCopy, copies_of}
use Rattle.jls_headline.proofs.Held.{is_at_line}
use Rattle.jls_headline.proofs.Pictures.{gives_picture}
use Rattle.jls_headline.proofs.StationPictures.{only_one}
use Rattle.jls_splice_laws.specs.ProfileFiles.{HasShapeUnder, HoldsExactlyBy}
use Rattle.jls_splice_laws.specs.WholeFiles.{IsWholeFileUnder}
use Rattle.jls_splice_laws.proofs.ProfileFiles.{one_shape}

-- the lines of a station that holds exactly what files give are those of an undamaged file among them, if each is settled
pub settled_is_whole : (station : PartialPicture) (files : List SourcedCopy) → HoldsExactlyBy Wide station files
    → (pic : WholePicture) → IsPicture pic → (file : List ℕ) → IsWholeFileUnder Wide pic file → Contains (copies_of files) file
    → IsSettled station → picture_of station ≡ pic
settled_is_whole station files holds pic is file whole among settled =
    (gives_picture station pic is same
    (λ c y l k. only_one (readings_at station c y) (line_of pic c y)
    (settled c (subst (λ (s : PictureShape). c < length s.ids) (sym same) l) y
    (subst (λ (s : PictureShape). y < s.height) (sym same) k))
    (is_at_line station c y (line_of pic c y) (held c y l k)))).1
  where
    same : station.shape ≡ pic.shape
    same =
        one_shape Wide file station.shape pic.shape
        (all_at (HasShapeUnder Wide station.shape) (copies_of files) file holds.are_files among) whole.reads.shape

    held : (c y : ℕ) → c < length pic.shape.ids → y < pic.shape.height → set.contains station.readings (picture_reading pic c y) ≡ true
    held c y l k =
        (holds.readings (picture_reading pic c y)).1 (file, among, (whole.reads.readings (picture_reading pic c y)).1 (l, k, refl))
