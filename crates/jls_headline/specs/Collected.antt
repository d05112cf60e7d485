-- Histories of calls: which copies public calls took for what they came to. A constructor is a call that answered in one way, and its
-- premises are what the clauses of this call's contract say of that answer. Four say more or less: `is_known` is no call,
-- `reader_finished` is two, `same_again` is any call that left the value as it was, and `text_cut_short` asks who holds the text's entries.
-- jls_callers makes each call, and ends in this step.
use Rattle.std.specs.Prelude.{◌≡◌, ℕ, ◌<◌, true, List, [], ◌∷◌, ◌++◌, Option, None}
use Rattle.std.specs.List.{AllByRecursion}
use Rattle.jls_values.specs.Join.{IsBetween}
use Rattle.jls_values.specs.OrderedSet as set
use Rattle.jls_values.specs.Shape.{PictureShape}
use Rattle.jls_partial.specs.Reading.{Reading}
use Rattle.jls_partial.specs.Partial.{PartialPicture, nothing_known, has_same_shape, union}
use Rattle.jls_partial.specs.Merging.{TakesPrefix}
use Rattle.jls_partial.specs.Text.{IsTextOf}
use Rattle.jls_partial.specs.TextPrefix.{text_prefix}
use Rattle.jls_partial.specs.TextMerging.{MergesText}
use Rattle.jls_io.specs.Event.{Event, bytes_given}
use Rattle.jls_copy.specs.CopyReads.{CopyReads}
use Rattle.jls_copy.specs.ReadCopy.{ReadCopy}
use Rattle.jls_station.specs.Given.{CopyReport, Given, marked}
use Rattle.jls_station.specs.Inputs.{ReadsGive}
use Rattle.jls_station.specs.TakingCopies.{TakesCopy, RefusesCopy}
use Rattle.jls_station.specs.declared.take_copy.TakeFault.{TakeFault}
use Rattle.jls_station.specs.declared.take_copy.TakeFault.TheVariants as fault
use Rattle.jls_headline.specs.Stations.{HoldsExactly, AreAmong, IsSameCopy}
use Rattle.jls_headline.specs.Sources.{SourcedCopy, sourced_copy, copies_of, HoldsExactlyUnder, IsSameUnder}

-- one entry of a text, which is a reading and its sources, is held
abbrev pub HoldsEntry : PartialPicture → Reading × List ℕ → Type 0
HoldsEntry p entry =
    (set.contains p.readings entry.0 ≡ true) × AllByRecursion (λ source. set.contains p.marks (entry.0, source) ≡ true) entry.1

-- so is each entry that stands in these bytes before their first fault as a text
abbrev pub HoldsPrefix : PartialPicture → List ℕ → Type 0
HoldsPrefix p bytes = AllByRecursion (HoldsEntry p) (text_prefix bytes)

-- What is known of partial pictures, however they came about
pub data Knowledge : Type 0 where
  -- nothing: only these calls tell what one holds
  no_knowledge : Knowledge
  -- of which copies one has the readings, whatever their sources
  of_readings : Knowledge
  -- of which copies it has the readings, and under which sources
  of_sources : Knowledge

-- the partial picture holds exactly what these copies give, as far as that knowledge goes
abbrev pub IsKnown : Knowledge → PartialPicture → List SourcedCopy → Type 0
IsKnown no_knowledge p copies = ⊥
IsKnown of_readings p copies = HoldsExactly p (copies_of copies)
IsKnown of_sources p copies = HoldsExactlyUnder p copies

-- `Collected known p copies over`: public calls came to the partial picture `p`, alone or in a station. For it they took `copies`, each
-- under a source or under none; copies that were refused are not counted. For those in `over` memory ran out: any of their readings may be
-- held, or none. A history may begin from a partial picture of which it is known what it holds, or pass through one
pub data Collected (known : Knowledge) : PartialPicture → List SourcedCopy → List SourcedCopy → Type 0 where
  -- It is known what this holds, as after `Partial::insert` of readings that copies gave, or after a later `Partial::mark`
  is_known : (p : PartialPicture) (copies : List SourcedCopy) → IsKnown known p copies → Collected known p copies []
  -- `Station::new`
  new_station : (shape : PictureShape) (station : PartialPicture) → station ≡ nothing_known shape → Collected known station [] []
  -- `CopyReader::finish` answered Ok after it was fed these bytes. Where there is a source, `Partial::mark` then did
  reader_finished : (source : Option ℕ) (bytes : List ℕ) (read : ReadCopy) (p : PartialPicture) → AllByRecursion (λ b. b < 256) bytes
      → CopyReads bytes read → p ≡ marked source read.partial → Collected known p (sourced_copy source bytes ∷ []) []
  -- `read_input` answered Ok, and what it read was a copy
  copy_input : (source : Option ℕ) (given : Given) (reads : List Event) → ReadsGive source given reads → (given.copy ≡ None → ⊥)
      → Collected known given.partial (sourced_copy source (bytes_given reads) ∷ []) []
  -- `read_input` answered Ok, and what it read was the text of something collected
  text_input : (p : PartialPicture) (copies over : List SourcedCopy) (source : Option ℕ) (given : Given) (reads : List Event)
      → Collected known p copies over → IsTextOf (bytes_given reads) p → ReadsGive source given reads
      → Collected known given.partial copies over
  -- `Partial::from_bytes` answered Ok for such a text
  text_back : (p new : PartialPicture) (copies over : List SourcedCopy) (bytes : List ℕ) → Collected known p copies over → IsTextOf bytes p
      → IsTextOf bytes new → Collected known new copies over
  -- A call left the value as it was: `Station::holding` or `Station::partial` handed it on, or a call answered ShapeDiffers
  same_again : (old new : PartialPicture) (copies over : List SourcedCopy) → Collected known old copies over → new ≡ old
      → Collected known new copies over
  -- `Station::take_copy` answered Ok
  copy_taken : (source : Option ℕ) (old new : PartialPicture) (report : CopyReport) (reads : List Event) (copies over : List SourcedCopy)
      → Collected known old copies over → TakesCopy source old new report reads
      → Collected known new (copies ++ sourced_copy source (bytes_given reads) ∷ []) over
  -- it answered a fault, but not OutOfMemory
  copy_refused : (source : Option ℕ) (old new : PartialPicture) (f : TakeFault) (reads : List Event) (copies over : List SourcedCopy)
      → Collected known old copies over → RefusesCopy source old new f reads → (f ≡ fault.OutOfMemory → ⊥) → Collected known new copies over
  -- it answered OutOfMemory
  copy_ran_out : (source : Option ℕ) (old new : PartialPicture) (reads : List Event) (copies over : List SourcedCopy)
      → Collected known old copies over → RefusesCopy source old new fault.OutOfMemory reads
      → Collected known new copies (over ++ sourced_copy source (bytes_given reads) ∷ [])
  -- `Station::take` answered Ok for something collected
  partial_taken : (old new other : PartialPicture) (copies over more further : List SourcedCopy) → Collected known old copies over
      → Collected known other more further → has_same_shape old other ≡ true → new ≡ union old other
      → Collected known new (copies ++ more) (over ++ further)
  -- it answered OutOfMemory
  partial_ran_out : (old new other : PartialPicture) (copies over more further : List SourcedCopy) → Collected known old copies over
      → Collected known other more further → IsBetween union old new (union old other)
      → Collected known new copies (over ++ (more ++ further))
  -- `Station::take_text` answered Ok for the text of something collected
  text_taken : (old new other : PartialPicture) (copies over more further : List SourcedCopy) (bytes : List ℕ)
      → Collected known old copies over
      → Collected known other more further → IsTextOf bytes other → MergesText old bytes new
      → Collected known new (copies ++ more) (over ++ further)
  -- it answered a fault for such a text, of which memory ran out or whose shape is another
  text_ran_out : (old new other : PartialPicture) (copies over more further : List SourcedCopy) (bytes : List ℕ)
      → Collected known old copies over → Collected known other more further → IsTextOf bytes other
      → IsBetween union old new (union old other)
      → Collected known new copies (over ++ (more ++ further))
  -- It answered a fault for other bytes, and something collected holds each entry before their fault. Such is a text that was cut short. A
  -- station that refused any other text has no history from then on, unless the refusal left it as it was, or it is known what it holds
  text_cut_short : (old new other : PartialPicture) (copies over more further : List SourcedCopy) (bytes : List ℕ)
      → Collected known old copies over → Collected known other more further → HoldsPrefix other bytes
      → TakesPrefix old new (text_prefix bytes)
      → Collected known new copies (over ++ (more ++ further))

-- Public calls took these copies for it, and no others. Or they took what is known to hold their readings, from whatever source. Each copy
-- for which memory ran out is the same as one of them, taken before or after
abbrev pub CollectedFrom : PartialPicture → List SourcedCopy → Type 0
CollectedFrom p copies =
    (over : List SourcedCopy) × Collected of_readings p copies over × AreAmong IsSameCopy (copies_of over) (copies_of copies)

-- So too with the sources of these readings, and each of those copies is the same under the same source
abbrev pub CollectedUnder : PartialPicture → List SourcedCopy → Type 0
CollectedUnder p copies = (over : List SourcedCopy) × Collected of_sources p copies over × AreAmong IsSameUnder over copies
