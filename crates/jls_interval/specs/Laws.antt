-- The laws of an interval's code.
use Rattle.std.specs.Prelude.{◌≡◌, ℕ, ◌/◌, ◌%◌, length, take, get_or, ◌+◌, ◌≤◌, ◌<◌, ◌↔◌, Bool, List, [], ◌∷◌, ◌++◌}
use Rattle.jls_values.specs.Params.{CodingParameters, AreCodingParameters}
use Rattle.jls_interval.specs.Lines.{IntervalShape, AreLines, neighbours_at}
use Rattle.jls_interval.specs.Events.{Event, AreEvents, neighbours, above, events}
use Rattle.jls_interval.specs.Runs.{block_columns, full_blocks}
use Rattle.jls_interval.specs.Code.{event_bits, code}
use Rattle.jls_interval.specs.Reads.{BeginsWithCode, Reads, IsLong, IsBroken}
use Rattle.jls_interval.specs.Stepwise.{Leads, bits_of_steps, IsEnd, IsPrefixFree}
use Rattle.jls_interval.specs.Growth.{Position, IsNext, interval_steps, start, finish}

-- finished lines are divided into events in exactly one way, and `events` computes it
abbrev pub PartedOnce : Type 0
PartedOnce =
    (p : CodingParameters) (width components count : ℕ) (lines : List (List ℕ)) → 0 < components → AreLines p width count lines
    → (es : List Event) → AreEvents width components lines es ↔ (es ≡ events width components lines)

-- the neighbours by L(y, x) in finished lines are those that follow from the lines above and the samples before
abbrev pub NeighboursAgree : Type 0
NeighboursAgree =
    (width components : ℕ) (lines : List (List ℕ)) (j x : ℕ) → 0 < components → j ≤ length lines
    → neighbours_at width components lines (j % components) (j / components) x
    ≡ neighbours width (above components (take j lines)) (get_or lines j []) x

-- the full blocks are as many as fit, and one more does not
abbrev pub FullBlocksFit : Type 0
FullBlocksFit =
    (run_index count : ℕ) → (block_columns run_index (full_blocks run_index count) ≤ count)
    × (count < block_columns run_index (full_blocks run_index count + 1))

-- lines that grow from the start, event by event, until no event can come next, are whole lines, and the events are theirs
abbrev pub GrowthEndsInLines : Type 0
GrowthEndsInLines =
    (p : CodingParameters) (width components count : ℕ) → 0 < width
    → (es : List Event) (z : Position) → Leads (interval_steps p width components count) start es z
    → IsEnd (interval_steps p width components count) z
    → AreLines p width count z.lines × (z ≡ finish width components z.lines) × (es ≡ events width components z.lines)

-- all lines grow so
abbrev pub LinesGrow : Type 0
LinesGrow =
    (p : CodingParameters) (width components count : ℕ) → 0 < width → (lines : List (List ℕ)) → AreLines p width count lines
    → Leads (interval_steps p width components count) start (events width components lines) (finish width components lines)

-- after the same earlier events, of two different events that can come next neither's bits begin the other's
abbrev pub EventsAreApart : Type 0
EventsAreApart =
    (p : CodingParameters) (width components count : ℕ) → AreCodingParameters p → IsPrefixFree (interval_steps p width components count)

-- every event that can come next in a line that isn't whole has a bit
abbrev pub EventsHaveBits : Type 0
EventsHaveBits =
    (p : CodingParameters) (width components count : ℕ) → 0 < width
    → (es : List Event) (z : Position) (e : Event) → Leads (interval_steps p width components count) start es z
    → IsNext p width components count z e → event_bits p z.earlier e ≡ [] → ⊥

-- of the codes of two different lists of lines, of one width and number, neither begins the other
abbrev pub CodesAreApart : Type 0
CodesAreApart =
    (p : CodingParameters) (width components count : ℕ) → AreCodingParameters p → 0 < width
    → (xs ys : List (List ℕ)) (s t : List Bool) → AreLines p width count xs → AreLines p width count ys
    → code p width components xs ++ s ≡ code p width components ys ++ t → (xs ≡ ys) × (s ≡ t)

-- a piece reads as at most one list of lines, and then it isn't too long
abbrev pub PiecesReadOnce : Type 0
PiecesReadOnce =
    (i : IntervalShape) → AreCodingParameters i.params → 0 < i.width → (piece : List ℕ) (xs : List (List ℕ)) → Reads i piece xs
    → ((ys : List (List ℕ)) → Reads i piece ys → xs ≡ ys) × (IsLong i piece → ⊥)

-- a piece is broken if and only if it doesn't begin with the code of any lines
abbrev pub BrokenBeginsWithNone : Type 0
BrokenBeginsWithNone =
    (i : IntervalShape) (piece : List ℕ)
    → IsBroken i piece ↔ ((lines : List (List ℕ)) (unread : List Bool) → BeginsWithCode i piece lines unread → ⊥)

-- bits that are a proper prefix of the code of some lines
pub record IsCutCode (i : IntervalShape) (given : List Bool) : Type 0 where
  pub lines : List (List ℕ)
  pub are_lines : AreLines i.params i.width i.line_count lines
  pub missing : Bool
  pub more_missing : List Bool
  pub code_is : given ++ missing ∷ more_missing ≡ code i.params i.width i.components lines

-- bits that are those of whole first events, then a proper prefix of the bits of one event that can come next. The prefix may be empty
pub record IsCutEvent (i : IntervalShape) (given : List Bool) : Type 0 where
  pub whole : List Event
  pub position : Position
  pub leads : Leads (interval_steps i.params i.width i.components i.line_count) start whole position
  pub cut : Event
  pub is_next : IsNext i.params i.width i.components i.line_count position cut
  pub begun : List Bool
  pub given_is : given ≡ bits_of_steps (interval_steps i.params i.width i.components i.line_count) start whole ++ begun
  pub missing : Bool
  pub more_missing : List Bool
  pub bits_are : event_bits i.params position.earlier cut ≡ begun ++ missing ∷ more_missing

-- bits are a proper prefix of a code (`IsCutCode`) if and only if they cut an event (`IsCutEvent`)
abbrev pub CutsAreExact : Type 0
CutsAreExact =
    (i : IntervalShape) → AreCodingParameters i.params → 0 < i.width → (given : List Bool) → IsCutCode i given ↔ IsCutEvent i given
