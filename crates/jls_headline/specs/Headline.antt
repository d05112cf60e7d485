-- The law that this product is trusted for: of public calls that read copies, and of those that write what came of it.
use Rattle.std.specs.Prelude.{◌≡◌, ℕ, ◌<◌, ◌^◌, List, [], ◌∷◌, length, Option, Result, Ok, IfOk, IfErr}
use Rattle.std.specs.List.{AllByRecursion}
use Rattle.jls_values.specs.Params.{AreCodingParameters}
use Rattle.jls_partial.specs.Partial.{PartialPicture, readings_at}
use Rattle.jls_partial.specs.Text.{text}
use Rattle.jls_io.specs.Event.{History, GrewBy}
use Rattle.jls_io.specs.Writing.{Wrote}
use Rattle.jls_write.specs.Picture.{WholePicture, line_of, picture_of}
use Rattle.jls_write.specs.WholePictures.{IsPicture}
use Rattle.jls_write.specs.Options.{WriteOptions, OptionsFit}
use Rattle.jls_write.specs.Outcomes.{HandedOut}
use Rattle.jls_write.specs.Pnm.{pnm}
use Rattle.jls_write.specs.Unsettled.{NamesFirstUnsettled}
use Rattle.jls_write.specs.declared.picture.PictureFault.{PictureFault}
use Rattle.jls_write.specs.WrittenFile.{written_file}
use Rattle.jls_report.specs.Report.{PictureReport, report_of}
use Rattle.jls_report.specs.ReportText.{report_text}
use Rattle.jls_headline.specs.Damaged.{Damaged, EachLineSurvives}
use Rattle.jls_headline.specs.Stations.{HoldsExactly, SameCopies}
use Rattle.jls_headline.specs.Sources.{SourcedCopy, copies_of, HoldsExactlyUnder, SameCopiesUnder}
use Rattle.jls_headline.specs.ReadsAs.{ReadsAsOnly}
use Rattle.jls_headline.specs.Collected.{CollectedFrom, CollectedUnder}

-- The same copies ------------------------------------------------------------------------------------------------

-- Two stations have one shape, and calls read the same copies for both, in any order and with any repeats. Then both hold exactly the
-- readings that these copies give, and so the same ones
abbrev pub SameCopiesHoldTheSame : Type 0
SameCopiesHoldTheSame =
    (station other : PartialPicture) (copies others : List SourcedCopy) → CollectedFrom station copies → CollectedFrom other others
    → station.shape ≡ other.shape → SameCopies (copies_of copies) (copies_of others)
    → HoldsExactly station (copies_of copies) × HoldsExactly other (copies_of others) × (station.readings ≡ other.readings)

-- Where the copies were also read under the same sources, the stations are equal: shape, readings and sources
abbrev pub SameSourcesAreOneStation : Type 0
SameSourcesAreOneStation =
    (station other : PartialPicture) (copies others : List SourcedCopy) → CollectedUnder station copies → CollectedUnder other others
    → station.shape ≡ other.shape → SameCopiesUnder copies others
    → HoldsExactlyUnder station copies × HoldsExactlyUnder other others × (station ≡ other)

-- What is written ------------------------------------------------------------------------------------------------

-- what a sink had done before a call and after it, and what it contained then, where that is known
pub record SinkCall : Type 0 where
  pub old : History
  pub new : History
  pub held : Option (List ℕ)
  pub holds : Option (List ℕ)

-- what the contract of a call that writes these bytes says of its sink where it answers Ok
abbrev pub HandedOutBy : SinkCall → List ℕ → Type 0
HandedOutBy call bytes = HandedOut call.old call.new call.held call.holds bytes

-- all that the sink did in the call were writes, and together they took exactly these bytes
abbrev pub TookBytes : SinkCall → List ℕ → Type 0
TookBytes call bytes = GrewBy (Wrote bytes) call.old call.new

-- in both calls the sinks took the same bytes
abbrev pub TookTheSame : SinkCall → SinkCall → Type 0
TookTheSame call again = (bytes : List ℕ) × TookBytes call bytes × TookBytes again bytes

-- the same calls on two stations, where all of them answer Ok
pub record WriteTheSame (station other : PartialPicture) : Type 0 where
  -- `Picture::of`, and `write_jls` of its answer, under options that are equal
  pub jls : (pic pic' : WholePicture) (o : WriteOptions) (call again : SinkCall) → pic ≡ picture_of station → pic' ≡ picture_of other
      → HandedOutBy call (written_file pic o) → HandedOutBy again (written_file pic' o) → TookTheSame call again
  -- `Picture::of`, and `write_pnm` of its answer
  pub pnm_file : (pic pic' : WholePicture) (call again : SinkCall) → pic ≡ picture_of station → pic' ≡ picture_of other
      → HandedOutBy call (pnm pic) → HandedOutBy again (pnm pic') → TookTheSame call again
  -- `Report::of`, and `to_text` of its answer
  pub report : (report report' : PictureReport) (bytes bytes' : List ℕ) → report ≡ report_of station → report' ≡ report_of other
      → bytes ≡ report_text report → bytes' ≡ report_text report' → bytes ≡ bytes'

-- `Partial::to_bytes` of what each of them holds
abbrev pub WriteOneText : PartialPicture → PartialPicture → Type 0
WriteOneText station other = (bytes bytes' : List ℕ) → bytes ≡ text station → bytes' ≡ text other → bytes ≡ bytes'

-- Two stations have one shape, and calls read the same copies for both. Then these calls write the same of both. Where the copies were read
-- under the same sources, their texts are the same too
abbrev pub SameCopiesWriteTheSame : Type 0
SameCopiesWriteTheSame =
    (station other : PartialPicture) (copies others : List SourcedCopy) → CollectedFrom station copies → CollectedFrom other others
    → station.shape ≡ other.shape → SameCopies (copies_of copies) (copies_of others)
    → WriteTheSame station other
    × (CollectedUnder station copies → CollectedUnder other others → SameCopiesUnder copies others → WriteOneText station other)

-- Damaged copies -------------------------------------------------------------------------------------------------

-- each line of the picture's shape has one reading in a station, which is the picture's; and the calls that answer or write the picture
-- give this one. Readings of other lines, and sources, are not spoken of
pub record WritesThePicture (station : PartialPicture) (pic : WholePicture) : Type 0 where
  -- each line has one reading, which is the picture's
  pub settled : (component line : ℕ) → component < length pic.shape.ids → line < pic.shape.height
      → readings_at station component line ≡ line_of pic component line ∷ []
  -- whatever `Picture::of` answers, it is Ok and the picture
  pub picture : (result : Result WholePicture PictureFault) → IfOk result (λ answer. answer ≡ picture_of station)
      → IfErr result (λ fault. NamesFirstUnsettled station fault) → result ≡ Ok pic
  -- where `write_jls` of that answer is Ok, under options that fit, with parameters and a restart interval in their ranges, what the sink
  -- took reads as the picture and as no other
  pub file : (answer : WholePicture) (o : WriteOptions) (call : SinkCall) → answer ≡ picture_of station
      → AreCodingParameters o.params → o.restart_interval < 2 ^ 32 → OptionsFit answer o
      → HandedOutBy call (written_file answer o)
      → (bytes : List ℕ) × TookBytes call bytes × ReadsAsOnly bytes pic

-- Calls took damaged copies of one picture for a station, and no other copies, and each line of the picture survives in some of them. Then
-- each line of the station is the picture's
abbrev pub DamagedCopiesWriteThePicture : Type 0
DamagedCopiesWriteThePicture =
    (pic : WholePicture) → IsPicture pic → (station : PartialPicture) (copies : List SourcedCopy) → CollectedFrom station copies
    → AllByRecursion (Damaged pic) (copies_of copies) → EachLineSurvives pic (copies_of copies) → WritesThePicture station pic
