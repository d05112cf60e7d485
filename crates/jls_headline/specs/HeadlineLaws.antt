-- Laws beside the headline: what is written of a station, bytes after the end of a copy, and files that read as one picture.
use Rattle.std.specs.Prelude.{◌≡◌, ℕ, ◌<◌, true, List, ◌++◌}
use Rattle.std.specs.List.{AllByRecursion}
use Rattle.jls_values.specs.Shape.{PictureShape}
use Rattle.jls_partial.specs.Partial.{PartialPicture}
use Rattle.jls_partial.specs.Text.{text}
use Rattle.jls_copy.specs.CopyReads.{IsDone}
use Rattle.jls_write.specs.Picture.{WholePicture, picture_of}
use Rattle.jls_write.specs.Options.{WriteOptions}
use Rattle.jls_write.specs.Pnm.{pnm}
use Rattle.jls_write.specs.WrittenFile.{written_file}
use Rattle.jls_report.specs.Report.{report_of}
use Rattle.jls_report.specs.ReportText.{report_text}
use Rattle.jls_headline.specs.Stations.{HasShape, IsSameCopy, SameCopies}
use Rattle.jls_headline.specs.Sources.{SourcedCopy, copies_of, SameCopiesUnder}
use Rattle.jls_headline.specs.Collected.{CollectedFrom, CollectedUnder}
use Rattle.jls_write.specs.WholePictures.{IsPicture}
use Rattle.jls_headline.specs.ReadsAs.{ReadsAs}

-- Bytes after the end of a copy change nothing: copies that differ there alone are one copy
abbrev pub BytesAfterTheEndChangeNothing : Type 0
BytesAfterTheEndChangeNothing = (prefix following following' : List ℕ) (shape : PictureShape) → IsDone prefix true
    → HasShape shape (prefix ++ following) → AllByRecursion (λ b. b < 256) following'
    → IsSameCopy (prefix ++ following) (prefix ++ following')

-- A file reads as one picture at most
abbrev pub FilesReadAsOne : Type 0
FilesReadAsOne = (file : List ℕ) (pic other : WholePicture) → IsPicture pic → IsPicture other
    → ReadsAs file pic → ReadsAs file other → pic ≡ other

-- What is written ----------------------------------------------------------------------------------------------

-- What two stations hold, report and show is the same, whatever the sources of their readings, and so are the files that are written of
-- it, as PNM and, under equal options, as JPEG-LS. Where the sources are the same, so are the texts
pub record SayTheSame (station other : PartialPicture) : Type 0 where
  pub readings : station.readings ≡ other.readings
  pub report : report_text (report_of station) ≡ report_text (report_of other)
  pub picture : picture_of station ≡ picture_of other
  pub pnm_file : pnm (picture_of station) ≡ pnm (picture_of other)
  pub jls_file : (o : WriteOptions) → written_file (picture_of station) o ≡ written_file (picture_of other) o
  pub of_same_sources : station.marks ≡ other.marks → text station ≡ text other

-- Stations of one shape that hold the same readings say the same
abbrev pub SameReadingsSayTheSame : Type 0
SameReadingsSayTheSame = (station other : PartialPicture) → station.shape ≡ other.shape → station.readings ≡ other.readings
    → SayTheSame station other

-- so stations of one shape for which calls read the same copies say the same
abbrev pub SameCopiesSayTheSame : Type 0
SameCopiesSayTheSame =
    (station other : PartialPicture) (copies others : List SourcedCopy) → CollectedFrom station copies → CollectedFrom other others
    → station.shape ≡ other.shape → SameCopies (copies_of copies) (copies_of others) → SayTheSame station other

-- and where they read them under the same sources, their texts are the same
abbrev pub SameSourcesSameText : Type 0
SameSourcesSameText =
    (station other : PartialPicture) (copies others : List SourcedCopy) → CollectedUnder station copies → CollectedUnder other others
    → station.shape ≡ other.shape → SameCopiesUnder copies others → text station ≡ text other
