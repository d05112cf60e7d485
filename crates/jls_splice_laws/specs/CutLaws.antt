-- The laws of the cut file: the bytes that choices make for the first parts, where all other choices for these parts are dead.
use Rattle.std.specs.Prelude.{◌≡◌, ℕ, ◌<◌, List, [], ◌∷◌, ◌++◌, length, take, Option}
use Rattle.std.specs.List.{AllByRecursion, Contains}
use Rattle.jls_partial.specs.Partial.{PartialPicture, readings_at}
use Rattle.jls_partial.specs.Reading.{Reading, reading_of}
use Rattle.jls_partial.specs.Status.{status_of}
use Rattle.jls_partial.specs.declared.status.Status.TheVariants.{Settled}
use Rattle.jls_values.specs.Shape.{PictureShape}
use Rattle.jls_write.specs.Picture.{WholePicture, line_of}
use Rattle.jls_file_laws.specs.Covering.{IsLineOf}
use Rattle.jls_marker.specs.declared.profile.Profile.TheVariants.{Wide}
use Rattle.jls_headline.specs.Damaged.{picture_reading}
use Rattle.jls_diff.specs.Parts.{Part, AreParts, IsSplice}
use Rattle.jls_search.specs.Choices.{prefix_of}
use Rattle.jls_search.specs.Faultless.{IsSought, IsWithin}
use Rattle.jls_search.specs.Levels.{IsLone}
use Rattle.jls_search.specs.Cuts.{TakesCut}
use Rattle.jls_search.specs.Shapes.{HasFrameOfShape}
use Rattle.jls_splice_laws.specs.ProfileFiles.{GivesReadingUnder}
use Rattle.jls_splice_laws.specs.WholeFiles.{IsWholeFileUnder}

-- A file that is sought begins with bytes that have, at each part for which the path has a choice, what some copy has there. Each other
-- path of as many choices is dead. Then these bytes are what the path makes
abbrev pub SoughtFilesBeginWithTheCut : Type 0
SoughtFilesBeginWithTheCut =
    (ceiling : Option ℕ) (copies : List (List ℕ)) (parts : List Part) → AreParts copies parts
    → (path : List ℕ) → IsLone (IsSought ceiling) parts path
    → (prefix more : List ℕ) → IsSplice (length copies) (take (length path) parts) prefix
    → AllByRecursion (λ b. b < 256) (prefix ++ more) → IsSought ceiling (prefix ++ more)
    → prefix ≡ prefix_of parts path

-- Each reading that a prefix of an undamaged file gives is a line of that file's picture. The prefix has a frame
abbrev pub WholeFilesBeginWithTheirLines : Type 0
WholeFilesBeginWithTheirLines =
    (pic : WholePicture) (prefix more : List ℕ) → IsWholeFileUnder Wide pic (prefix ++ more)
    → (shape : PictureShape) → HasFrameOfShape shape prefix → (r : Reading) → GivesReadingUnder Wide prefix r → IsLineOf pic r

-- Each reading that a cut file gives is among those that a station which took it holds of that line. If the line is settled, it is the one
abbrev pub CutsAreHeld : Type 0
CutsAreHeld =
    (source : Option ℕ) (copies splices : List (List ℕ)) (cut : List ℕ) (station : PartialPicture)
    → TakesCut source copies splices cut station → (r : Reading) → GivesReadingUnder Wide cut r
    → Contains (readings_at station r.component r.line) r.samples
    × (status_of (readings_at station r.component r.line) ≡ Settled → readings_at station r.component r.line ≡ r.samples ∷ [])

-- What a cut file, and a station that took it, tell of one line of a picture
pub record CutTellsOfLine (pic : WholePicture) (station : PartialPicture) (cut : List ℕ) (component line : ℕ) : Type 0 where
  -- each reading that the cut file gives of the line is the picture's; it can give none
  pub no_other : (samples : List ℕ) → GivesReadingUnder Wide cut (reading_of component line samples) → samples ≡ line_of pic component line
  -- the cut file gives the line: it is among the readings held. If the line is settled, it is that one
  pub held : GivesReadingUnder Wide cut (picture_reading pic component line)
      → Contains (readings_at station component line) (line_of pic component line)
      × (status_of (readings_at station component line) ≡ Settled → readings_at station component line ≡ line_of pic component line ∷ [])

-- Copies have these parts, and each other path of as many choices is dead. A station took the copies, some splices, and the cut file: what
-- the path makes
pub record WereCut (ceiling : Option ℕ) (copies : List (List ℕ)) (parts : List Part) (path : List ℕ) (source : Option ℕ)
    (station : PartialPicture) : Type 0 where
  pub are_parts : AreParts copies parts
  pub is_lone : IsLone (IsSought ceiling) parts path
  pub splices : List (List ℕ)
  pub takes : TakesCut source copies splices (prefix_of parts path) station

-- An undamaged file begins with bytes that have, at each part before the cut, what some copy has there. No sample of the file is above the
-- ceiling, if there is one. Then these bytes are the cut file. Each reading that it gives is a line of the file's picture, and the station
-- holds it. So where such a line is settled, it is the picture's
abbrev pub CutLinesAreThePicture : Type 0
CutLinesAreThePicture =
    (ceiling : Option ℕ) (copies : List (List ℕ)) (parts : List Part) (path : List ℕ) (source : Option ℕ) (station : PartialPicture)
    → WereCut ceiling copies parts path source station
    → (pic : WholePicture) (prefix more : List ℕ) → IsWholeFileUnder Wide pic (prefix ++ more)
    → IsWithin ceiling (prefix ++ more)
    → IsSplice (length copies) (take (length path) parts) prefix
    → (prefix ≡ prefix_of parts path)
    × ((component line : ℕ) → CutTellsOfLine pic station (prefix_of parts path) component line)
