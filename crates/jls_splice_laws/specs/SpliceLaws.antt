-- The laws of splices that speak of readings and pictures. That the copies are splices of the parts that are found is a law of jls_diff.
use Rattle.std.specs.Prelude.{◌≡◌, ℕ, ◌<◌, Bool, false, List, length, Option}
use Rattle.std.specs.List.{AllByRecursion, Contains}
use Rattle.jls_values.specs.Shape.{PictureShape}
use Rattle.jls_partial.specs.Partial.{PartialPicture}
use Rattle.jls_partial.specs.Status.{IsSettled}
use Rattle.jls_marker.specs.declared.profile.Profile.TheVariants.{Wide}
use Rattle.jls_write.specs.Picture.{WholePicture, picture_of}
use Rattle.jls_write.specs.WholePictures.{IsPicture}
use Rattle.jls_headline.specs.Stations.{HoldsExactly}
use Rattle.jls_headline.specs.Sources.{SourcedCopy, copies_of}
use Rattle.jls_headline.specs.Collected.{CollectedFrom}
use Rattle.jls_headline.specs.TookFiles.{TookFilesFrom}
use Rattle.jls_headline.specs.Damaged.{EachLineSurvives}
use Rattle.jls_diff.specs.Parts.{Part, IsSplice}
use Rattle.jls_search.specs.Faultless.{IsSought, IsWithin}
use Rattle.jls_splice_laws.specs.Taken.{FilesTaken, AllTaken, SearchTaken}
use Rattle.jls_splice_laws.specs.WholeFiles.{IsWholeFile, IsWholeFileUnder}

-- public calls that read copies, and so files by line, read these files for the station, each under some source or under none, and no
-- others
abbrev pub ReadFiles : PartialPicture → List (List ℕ) → Type 0
ReadFiles station files = (copies : List SourcedCopy) × CollectedFrom station copies × (copies_of copies ≡ files)

-- public calls that read under the wide profile did
abbrev pub ReadWideFiles : PartialPicture → List (List ℕ) → Type 0
ReadWideFiles station files = (read : List SourcedCopy) × TookFilesFrom Wide station read × (copies_of read ≡ files)

-- Where calls read these files for a station, under the wide profile or all of them as copies: not each line of it is settled, or they are
-- the picture of this undamaged file. As a copy it is read by line
pub record SettlesNoOther (files : List (List ℕ)) (pic : WholePicture) (file : List ℕ) : Type 0 where
  pub wide : (station : PartialPicture) → ReadWideFiles station files → IsSettled station → picture_of station ≡ pic
  pub as_copies : IsWholeFile pic file → (station : PartialPicture) → ReadFiles station files → IsSettled station
      → picture_of station ≡ pic

-- Where the search found each splice that is sought, each of them is among the files taken: none has another shape
abbrev pub FaultlessSplicesAreTaken : Type 0
FaultlessSplicesAreTaken =
    (ceiling : Option ℕ) (copies : List (List ℕ)) (parts : List Part) (shape : PictureShape) (files : List (List ℕ))
    → AllTaken ceiling copies parts shape files
    → (bytes : List ℕ) → AllByRecursion (λ b. b < 256) bytes → IsSplice (length copies) parts bytes → IsSought ceiling bytes
    → Contains files bytes

-- A station for which calls read the files taken holds exactly their readings. Where every line of a picture survives in some of them,
-- whatever the search found and whatever else they read as, not each line of the station is settled, or they are that picture
abbrev pub SplicesGiveNoOther : Type 0
SplicesGiveNoOther =
    (copies : List (List ℕ)) (parts : List Part) (shape : PictureShape) (files : List (List ℕ)) → FilesTaken copies parts shape files
    → (station : PartialPicture) → ReadFiles station files
    → HoldsExactly station files
    × ((pic : WholePicture) → IsPicture pic → EachLineSurvives pic files → IsSettled station → picture_of station ≡ pic)

-- Where an undamaged file within the ceiling is a splice of the copies, and the search found each splice that is sought: what calls read of
-- the files taken settles that file's picture and no other
abbrev pub WholeSplicesGiveNoOther : Type 0
WholeSplicesGiveNoOther =
    (ceiling : Option ℕ) (copies : List (List ℕ)) (parts : List Part) (shape : PictureShape) (files : List (List ℕ))
    → AllTaken ceiling copies parts shape files
    → (pic : WholePicture) → IsPicture pic → (file : List ℕ) → IsWholeFileUnder Wide pic file → IsWithin ceiling file
    → IsSplice (length copies) parts file
    → SettlesNoOther files pic file

-- What is taken of the copies and of what `search` came to over them are files taken, each of which is a splice. Where its tries
-- were not used up, each splice that is sought is among them
abbrev pub SearchedFilesAreTaken : Type 0
SearchedFilesAreTaken =
    (ceiling : Option ℕ) (copies : List (List ℕ)) (parts : List Part) (found : List (List ℕ)) (is_used_up : Bool) (shape : PictureShape)
    (files : List (List ℕ)) → SearchTaken ceiling copies parts found is_used_up shape files
    → FilesTaken copies parts shape files × (is_used_up ≡ false → AllTaken ceiling copies parts shape files)

-- So, where the tries of `search` were not used up: if an undamaged file within the ceiling is a splice of the copies, it is taken. What
-- calls read of the files taken settles its picture and no other
abbrev pub SearchedSplicesGiveNoOther : Type 0
SearchedSplicesGiveNoOther =
    (ceiling : Option ℕ) (copies : List (List ℕ)) (parts : List Part) (found : List (List ℕ)) (shape : PictureShape)
    (files : List (List ℕ)) → SearchTaken ceiling copies parts found false shape files
    → (pic : WholePicture) → IsPicture pic → (file : List ℕ) → IsWholeFileUnder Wide pic file → IsWithin ceiling file
    → IsSplice (length copies) parts file
    → Contains files file × SettlesNoOther files pic file
