-- What a decoder that is given a few bits at a time keeps.
use Rattle.std.specs.Prelude.{◌≡◌, ℕ, ◌%◌, ◌<◌, ◌≤◌, Bool, true, false, List, ◌++◌, length, get_or, min}
use Rattle.std.specs.List.{AllByRecursion}
use Rattle.jls_values.specs.Params.{CodingParameters}
use Rattle.jls_context.specs.Variables.{Variables}
use Rattle.jls_interval.specs.Lines.{AreLines}
use Rattle.jls_interval.specs.Events.{Event, above}
use Rattle.jls_interval.specs.Code.{code}
use Rattle.jls_interval.specs.Stepwise.{Leads, bits_of_steps}
use Rattle.jls_interval.specs.Growth.{HasSamples, interval_steps, start}
use Rattle.jls_interval.specs.After.{IsAfter}
use Rattle.jls_interval.specs.OpenEvents.{OpenEventAt}
use Rattle.jls_interval.specs.PieceFaults.{NoLines}
use Rattle.jls_interval.specs.declared.line_reader.OpenEvent.{OpenEvent}
use Rattle.jls_interval.specs.declared.interval_reader.State.{State}
use Rattle.jls_interval.specs.declared.interval_reader.State.TheVariants.{Working, Complete, NoCode}
use Rattle.jls_interval.specs.declared.interval_reader.IntervalReader.{IntervalReader}

-- Lines are still to come. Of the bits given, the first ones are those of whole events, which lead from the start to these finished
-- lines and this begun one; the machine in hand was fed the others
pub record IsWorking (p : CodingParameters) (w c n : ℕ) (given : List Bool) (lines : List (List ℕ)) (line : List ℕ) (cells : Variables)
    (run_indices : List ℕ) (open_event : OpenEvent) : Type 0 where
  pub earlier : List Event
  pub fed : List Bool
  pub leads : Leads (interval_steps p w c n) start earlier (record { lines = lines; line = line; earlier = earlier })
  pub bits_are : given ≡ bits_of_steps (interval_steps p w c n) start earlier ++ fed
  pub samples : HasSamples p (record { lines = lines; line = line; earlier = earlier })
  pub unfinished : length line < w
  pub few : length lines < n
  pub is_after : IsAfter p cells run_indices earlier
  pub open_event_at : OpenEventAt p w (above c lines) line cells (get_or run_indices (length lines % c) 0) open_event fed

-- all lines are there, and so many bits, counted up to 8, came after their code
pub record IsComplete (p : CodingParameters) (w c n : ℕ) (given : List Bool) (lines : List (List ℕ)) (extra : ℕ) : Type 0 where
  pub unread : List Bool
  pub are_lines : AreLines p w n lines
  pub begins : given ≡ code p w c lines ++ unread
  pub counted : extra ≡ min 8 (length unread)

-- no lines' code begins with the bits given, whatever comes
abbrev pub BeginsNoCode : CodingParameters → ℕ → ℕ → ℕ → List Bool → Type 0
BeginsNoCode p w c n given = (more : List Bool) → NoLines p w c n (given ++ more)

-- what the bits given have come to
abbrev pub StateIs : CodingParameters → ℕ → ℕ → ℕ → List Bool → List (List ℕ) → List ℕ → Variables → List ℕ → OpenEvent → State → Type 0
StateIs p w c n given lines line cells run_indices open_event Working =
    IsWorking p w c n given lines line cells run_indices open_event
StateIs p w c n given lines line cells run_indices open_event (Complete extra) = IsComplete p w c n given lines extra
StateIs p w c n given lines line cells run_indices open_event NoCode = BeginsNoCode p w c n given

-- each of these lines has so many samples
abbrev pub HaveWidth : ℕ → List (List ℕ) → Type 0
HaveWidth w lines = AllByRecursion (λ line. length line ≡ w) lines

-- what the fields of a reader say of the bits given. No line is finished without a bit of its own
pub record IsReading (p : CodingParameters) (given : List Bool) (d : IntervalReader) : Type 0 where
  pub parameters : d.reader.coder.cells.parameters ≡ p
  pub width_at_least : 0 < d.reader.width
  pub components_at_least : 0 < d.components
  pub components_at_most : d.components ≤ 4
  pub lines_at_most : length d.lines ≤ d.count
  pub lines_paid : length d.lines ≤ length given
  pub lines_wide : HaveWidth d.reader.width d.lines
  pub line_at_most : length d.reader.line.items ≤ d.reader.width
  pub state_is : StateIs p d.reader.width d.components d.count given d.lines d.reader.line.items d.reader.coder.cells
      d.reader.coder.run_indices d.reader.open_event d.state

-- all bits of a chunk were taken
abbrev pub TakesAllBits : IntervalReader → IntervalReader → List Bool → Type 0
TakesAllBits old new chunk =
    (p : CodingParameters) (given : List Bool) → IsReading p given old → IsReading p (given ++ chunk) new

-- the first bits of a chunk were taken
pub record Taken (p : CodingParameters) (given : List Bool) (new : IntervalReader) (chunk unread : List Bool) : Type 0 where
  pub taken : List Bool
  pub chunk_is : chunk ≡ taken ++ unread
  pub reading : IsReading p (given ++ taken) new

-- the first bits of a chunk were taken, whatever was given before
abbrev pub TakesFirst : IntervalReader → List Bool → IntervalReader → List Bool → Type 0
TakesFirst old chunk new unread =
    (p : CodingParameters) (given : List Bool) → IsReading p given old → Taken p given new chunk unread

-- the last bits given are those of a chunk, and were not taken
pub record GivenBack (p : CodingParameters) (given : List Bool) (new : IntervalReader) (chunk : List Bool) : Type 0 where
  pub before : List Bool
  pub given_is : given ≡ before ++ chunk
  pub reading : IsReading p before new

-- the bits of a chunk, which were given last, were not taken
abbrev pub GivesBack : IntervalReader → IntervalReader → List Bool → Type 0
GivesBack old new chunk = (p : CodingParameters) (given : List Bool) → IsReading p given old → GivenBack p given new chunk

-- the first bits of a chunk were taken, some of them
pub record TakesSomeBits (p : CodingParameters) (given : List Bool) (new : IntervalReader) (chunk unread : List Bool) : Type 0 where
  pub taken : List Bool
  pub chunk_is : chunk ≡ taken ++ unread
  pub some : 0 < length taken
  pub reading : IsReading p (given ++ taken) new

-- a whole event was taken, or all that the bits say
abbrev pub TakesEvent : IntervalReader → IntervalReader → List Bool → List Bool → Bool → Type 0
TakesEvent old new chunk unread true =
    (p : CodingParameters) (given : List Bool) → IsReading p given old → TakesSomeBits p given new chunk unread
TakesEvent old new chunk unread false = TakesAllBits old new chunk

-- the shape of an interval stays
pub record KeepsShape (old new : IntervalReader) : Type 0 where
  pub width : new.reader.width ≡ old.reader.width
  pub components : new.components ≡ old.components
  pub count : new.count ≡ old.count
