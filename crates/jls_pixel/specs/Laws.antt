-- The laws of the code of an interval by sample.
use Rattle.std.specs.Prelude.{◌≡◌, ℕ, ◌<◌, ◌↔◌, Bool, List, [], ◌++◌}
use Rattle.jls_values.specs.Params.{CodingParameters, AreCodingParameters}
use Rattle.jls_interval.specs.Stepwise.{Leads, IsEnd, IsPrefixFree}
use Rattle.jls_pixel.specs.Pixels.{PixelShape, AreRows}
use Rattle.jls_pixel.specs.Events.{Event, events}
use Rattle.jls_pixel.specs.Code.{event_bits, pixel_code}
use Rattle.jls_pixel.specs.Reads.{BeginsWithCode, Reads, IsLong, IsBroken}
use Rattle.jls_pixel.specs.Growth.{Position, IsNext, pixel_steps, start, finish}

-- all rows grow from the start, event by event
abbrev pub RowsGrow : Type 0
RowsGrow =
    (p : CodingParameters) (width components count : ℕ) → 0 < width
    → (rows : List (List (List ℕ))) → AreRows p width components count rows
    → Leads (pixel_steps p width components count) start (events width components rows) (finish width components rows)

-- rows that grow from the start, event by event, until no event can come next, are whole rows, and the events are theirs
abbrev pub GrowthEndsInRows : Type 0
GrowthEndsInRows =
    (p : CodingParameters) (width components count : ℕ) → 0 < width
    → (es : List Event) (z : Position) → Leads (pixel_steps p width components count) start es z
    → IsEnd (pixel_steps p width components count) z
    → AreRows p width components count z.rows × (z ≡ finish width components z.rows) × (es ≡ events width components z.rows)

-- after the same earlier events, of two different events that can come next neither's bits begin the other's
abbrev pub EventsAreApart : Type 0
EventsAreApart =
    (p : CodingParameters) (width components count : ℕ) → AreCodingParameters p → IsPrefixFree (pixel_steps p width components count)

-- every event that can come next in a row that isn't whole has a bit
abbrev pub EventsHaveBits : Type 0
EventsHaveBits =
    (p : CodingParameters) (width components count : ℕ) → 0 < width → 0 < components
    → (es : List Event) (z : Position) (e : Event) → Leads (pixel_steps p width components count) start es z
    → IsNext p width components count z e → event_bits p z.earlier e ≡ [] → ⊥

-- of the codes of two different lists of rows, of one width and number, neither begins the other
abbrev pub CodesAreApart : Type 0
CodesAreApart =
    (p : CodingParameters) (width components count : ℕ) → AreCodingParameters p → 0 < width
    → (xs ys : List (List (List ℕ))) (s t : List Bool) → AreRows p width components count xs → AreRows p width components count ys
    → pixel_code p width components xs ++ s ≡ pixel_code p width components ys ++ t → (xs ≡ ys) × (s ≡ t)

-- a piece reads as at most one list of rows, and then it isn't too long
abbrev pub PiecesReadOnce : Type 0
PiecesReadOnce =
    (i : PixelShape) → AreCodingParameters i.params → 0 < i.width → (piece : List ℕ) (xs : List (List (List ℕ))) → Reads i piece xs
    → ((ys : List (List (List ℕ))) → Reads i piece ys → xs ≡ ys) × (IsLong i piece → ⊥)

-- a piece is broken if and only if it doesn't begin with the code of any rows
abbrev pub BrokenBeginsWithNone : Type 0
BrokenBeginsWithNone =
    (i : PixelShape) (piece : List ℕ)
    → IsBroken i piece ↔ ((rows : List (List (List ℕ))) (unread : List Bool) → BeginsWithCode i piece rows unread → ⊥)
