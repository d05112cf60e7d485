-- The headline for whole runs of `join`, whose inputs are copies, or copies and texts.
use Rattle.std.specs.Prelude.{◌≡◌, ℕ, Bool, false, List, [], ◌∷◌, ◌++◌, Option, ◌⊎◌}
use Rattle.std.specs.List.{AllByRecursion}
use Rattle.jls_partial.specs.Partial.{PartialPicture}
use Rattle.jls_partial.specs.Text.{text}
use Rattle.jls_io.specs.Event.{Event}
use Rattle.jls_write.specs.Picture.{WholePicture}
use Rattle.jls_station.specs.Texts.{is_text, IsTextOf}
use Rattle.jls_salvage_run.specs.Joining.{JoinIsDone}
use Rattle.jls_salvage_run.specs.CommandLaws.{input_bytes, output_bytes}
use Rattle.jls_headline.specs.Damaged.{Damaged, EachLineSurvives}
use Rattle.jls_headline.specs.Stations.{HoldsExactly, SameCopies}
use Rattle.jls_write.specs.WholePictures.{IsPicture}
use Rattle.jls_headline.specs.ReadsAs.{GivesPicture, FilesReadAs}
use Rattle.jls_headline.specs.HeadlineLaws.{SayTheSame}
use Rattle.jls_headline.specs.LineLaws.{TellsOfLine}
use Rattle.jls_headline.specs.Sources.{SourcedCopy, sourced_copy, copies_of, HoldsExactlyUnder, SameCopiesUnder}
use Rattle.jls_headline.specs.Collected.{CollectedFrom, CollectedUnder}

-- a run of `join` that is done, under a source or none: what it joined, whether this is settled and whole, and its reads and writes
pub record DoneJoin : Type 0 where
  pub source : Option ℕ
  pub out : List ℕ
  pub names : List (List ℕ)
  pub joined : PartialPicture
  pub settled : Bool
  pub whole : Bool
  pub events : List Event
  pub is_done : JoinIsDone source out names joined settled whole events

-- none of these is read as a text
abbrev pub AreNoTexts : List (List ℕ) → Type 0
AreNoTexts inputs = AllByRecursion (λ bytes. is_text bytes ≡ false) inputs

-- What a run of `join` joins that is done, and whose inputs are copies and no texts, holds exactly the readings that these copies give
abbrev pub RunsHoldExactly : Type 0
RunsHoldExactly =
    (run : DoneJoin) → AreNoTexts (input_bytes run.events) → HoldsExactly run.joined (input_bytes run.events)

-- Which copies an input stands for in a run under this source: a copy for itself, under the source. The text of what calls collected
-- stands for the copies that they read for it, which have their own sources
abbrev pub InputStandsFor : Option ℕ → List ℕ → List SourcedCopy → Type 0
InputStandsFor source bytes copies =
    ((is_text bytes ≡ false) × (copies ≡ sourced_copy source bytes ∷ []))
    ⊎ ((p : PartialPicture) × IsTextOf bytes p × CollectedFrom p copies)

-- these copies, side by side, are those that the inputs stand for
abbrev pub InputsStand : {C : Type 0} → (List ℕ → List C → Type 0) → List (List ℕ) → List C → Type 0
InputsStand StandsFor [] copies = copies ≡ []
InputsStand {C} StandsFor (bytes ∷ inputs) copies =
    (mine : List C) × (more : List C) × (copies ≡ mine ++ more) × StandsFor bytes mine × InputsStand StandsFor inputs more

-- these inputs, in turn, stand for these copies
abbrev pub InputsStandFor : Option ℕ → List (List ℕ) → List SourcedCopy → Type 0
InputsStandFor source inputs copies = InputsStand (InputStandsFor source) inputs copies

-- What a run of `join` joins that is done, with any status, was collected from the copies that its inputs stand for
abbrev pub RunsAreCollected : Type 0
RunsAreCollected =
    (run : DoneJoin) (copies : List SourcedCopy) → InputsStandFor run.source (input_bytes run.events) copies
    → CollectedFrom run.joined copies

-- so it holds exactly their readings
abbrev pub RunsWithTextsHoldExactly : Type 0
RunsWithTextsHoldExactly =
    (run : DoneJoin) (copies : List SourcedCopy) → InputsStandFor run.source (input_bytes run.events) copies
    → HoldsExactly run.joined (copies_of copies)

-- What it joins tells this of each line of a picture, with any status
abbrev pub RunsTellOfLines : Type 0
RunsTellOfLines =
    (run : DoneJoin) (copies : List SourcedCopy) → InputsStandFor run.source (input_bytes run.events) copies
    → (pic : WholePicture) (component line : ℕ) → TellsOfLine pic run.joined (copies_of copies) component line

-- Two runs that are done, and whose inputs are copies and no texts, the same ones in any order and with any repeats, join what holds and
-- says the same. Where both had the same source, or none, it has the same text
abbrev pub RunsSayTheSame : Type 0
RunsSayTheSame =
    (run again : DoneJoin) → AreNoTexts (input_bytes run.events) → AreNoTexts (input_bytes again.events)
    → SameCopies (input_bytes run.events) (input_bytes again.events)
    → SayTheSame run.joined again.joined × (run.source ≡ again.source → text run.joined ≡ text again.joined)

-- So too where texts are among the inputs: two runs of one shape whose inputs stand for the same copies, from whatever sources, join what
-- holds and says the same
abbrev pub RunsWithTextsSayTheSame : Type 0
RunsWithTextsSayTheSame =
    (run again : DoneJoin) (copies others : List SourcedCopy) → InputsStandFor run.source (input_bytes run.events) copies
    → InputsStandFor again.source (input_bytes again.events) others
    → run.joined.shape ≡ again.joined.shape → SameCopies (copies_of copies) (copies_of others) → SayTheSame run.joined again.joined

-- Where the inputs of a run that is done are damaged copies of one picture and every line survives in some input, each line of what it
-- joins is settled, and they are that picture; and the JPEG-LS file that is written of it reads as that picture and no other
abbrev pub RunsGiveThePicture : Type 0
RunsGiveThePicture =
    (run : DoneJoin) (pic : WholePicture) → IsPicture pic → AllByRecursion (Damaged pic) (input_bytes run.events)
    → EachLineSurvives pic (input_bytes run.events)
    → GivesPicture run.joined pic × FilesReadAs run.joined pic

-- so too where the inputs are copies and texts, and it is so of the copies that they stand for
abbrev pub RunsWithTextsGiveThePicture : Type 0
RunsWithTextsGiveThePicture =
    (run : DoneJoin) (copies : List SourcedCopy) → InputsStandFor run.source (input_bytes run.events) copies
    → (pic : WholePicture) → IsPicture pic → AllByRecursion (Damaged pic) (copies_of copies) → EachLineSurvives pic (copies_of copies)
    → GivesPicture run.joined pic × FilesReadAs run.joined pic

-- Sources --------------------------------------------------------------------------------------------------------

-- The same, where each copy for which memory ran out was read again under the same source
abbrev pub InputStandsUnder : Option ℕ → List ℕ → List SourcedCopy → Type 0
InputStandsUnder source bytes copies =
    ((is_text bytes ≡ false) × (copies ≡ sourced_copy source bytes ∷ []))
    ⊎ ((p : PartialPicture) × IsTextOf bytes p × CollectedUnder p copies)

-- these inputs, in turn, stand for these copies under their sources
abbrev pub InputsStandUnder : Option ℕ → List (List ℕ) → List SourcedCopy → Type 0
InputsStandUnder source inputs copies = InputsStand (InputStandsUnder source) inputs copies

-- What a run of `join` joins that is done was collected so
abbrev pub RunsAreCollectedUnder : Type 0
RunsAreCollectedUnder =
    (run : DoneJoin) (copies : List SourcedCopy) → InputsStandUnder run.source (input_bytes run.events) copies
    → CollectedUnder run.joined copies

-- so it holds exactly their readings, each under exactly the sources of the copies that give it
abbrev pub RunsHoldExactlyUnder : Type 0
RunsHoldExactlyUnder =
    (run : DoneJoin) (copies : List SourcedCopy) → InputsStandUnder run.source (input_bytes run.events) copies
    → HoldsExactlyUnder run.joined copies

-- Two such runs of one shape whose inputs stand for the same copies under the same sources, in any order and with any repeats, join what
-- is the same, and hand the same bytes to their outputs
abbrev pub RunsUnderSourcesHandOutTheSame : Type 0
RunsUnderSourcesHandOutTheSame =
    (run again : DoneJoin) (copies others : List SourcedCopy) → InputsStandUnder run.source (input_bytes run.events) copies
    → InputsStandUnder again.source (input_bytes again.events) others → run.joined.shape ≡ again.joined.shape
    → SameCopiesUnder copies others → (run.joined ≡ again.joined) × (output_bytes run.events ≡ output_bytes again.events)
