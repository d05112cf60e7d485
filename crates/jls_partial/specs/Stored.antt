-- What the program's stores are seen as.
use Rattle.std.specs.Coded.{Coded, code_by, coded×, coded_ℕ, coded_list}
use Rattle.std.specs.List.{AllByRecursion}
use Rattle.std.specs.Prelude.{◌≡◌, ℕ, Bool, ◌≤◌, List, ◌++◌, map, refl}
use Rattle.jls_values.specs.OrderedSet as set
use Rattle.jls_partial.specs.declared.slots.Slots.{Slots}
use Rattle.jls_partial.specs.declared.slots.Slot.{Slot}
use Rattle.jls_partial.specs.declared.packed_lines.PackedLines.{PackedLines}
use Rattle.jls_partial.specs.declared.line_place.LinePlace.{LinePlace}
use Rattle.jls_partial.specs.LineEntries.{LineEntry, PutsAt, PutsLine, MarksLine, lines_or}
use Rattle.jls_partial.specs.Slots.{slots_of}
use Rattle.jls_partial.specs.LineSet.{PictureLines, coded_lines, no_lines}
use Rattle.jls_partial.specs.PackedLines.{seen_lines, IsLineSet}

-- the lines that slots have of what is packed
abbrev pub lines_in : PackedLines → Slots → PictureLines
lines_in packed slots = seen_lines packed.precision packed.width packed.samples.items (slots_of slots)

-- and whether the slots are of it
abbrev pub AreSlotsOf : PackedLines → Slots → Type 0
AreSlotsOf packed slots = IsLineSet packed.precision packed.width packed.samples.items (slots_of slots)

-- the same samples with more of them after
pub record Extends (old new : PackedLines) : Type 0 where
  pub precision : new.precision ≡ old.precision
  pub width : new.width ≡ old.width
  pub more : List ℕ
  pub samples : new.samples.items ≡ old.samples.items ++ more

-- bits per sample, samples per line, and what is kept of each line, in the order of the places
pub record StoredLines : Type 0 where
  pub precision : ℕ
  pub width : ℕ
  pub entries : List LineEntry

-- the checker's logic stores these as their parts
abbrev pub coded_line_entry : Coded LineEntry
coded_line_entry =
    coded× (code_by (ℕ × ℕ) (coded× coded_ℕ coded_ℕ) (λ at. (at.component, at.line)) (λ p. record { component = p.0; line = p.1 })
    (λ _. refl)) coded_lines

-- how the checker's logic stores a store
abbrev pub coded_stored : Coded StoredLines
coded_stored = code_by (ℕ × (ℕ × List LineEntry)) (coded× coded_ℕ (coded× coded_ℕ (coded_list coded_line_entry)))
    (λ s. (s.precision, (s.width, s.entries))) (λ p. record { precision = p.0; width = p.1.0; entries = p.1.1 }) (λ _. refl)

-- the slots of each line, in the order of the places
abbrev pub LineSlots : Type 0
LineSlots = LinePlace × List Slot

-- the slots of each line, as lists
abbrev pub slots_of_entries : List (LinePlace × Slots) → List LineSlots
slots_of_entries es = map (λ e. (e.0, slots_of e.1)) es

-- what is kept of each line
abbrev pub seen_entries : ℕ → ℕ → List ℕ → List LineSlots → List LineEntry
seen_entries precision width packed es = map (λ e. (e.0, seen_lines precision width packed e.1)) es

-- what is kept of each line, from the packed samples
abbrev pub entries_in : PackedLines → List (LinePlace × Slots) → List LineEntry
entries_in packed es = seen_entries packed.precision packed.width packed.samples.items (slots_of_entries es)

-- each line's slots are of what is packed
pub record AreSlotsPacked (precision width : ℕ) (packed : List ℕ) (es : List LineSlots) : Type 0 where
  pub precision_at_most : precision ≤ 16
  pub width_at_least : 1 ≤ width
  pub each : AllByRecursion (λ e. IsLineSet precision width packed e.1) es

-- each line's slots are of what is packed, with its precision and width
abbrev pub AreRowsOf : PackedLines → List (LinePlace × Slots) → Type 0
AreRowsOf packed es = AreSlotsPacked packed.precision packed.width packed.samples.items (slots_of_entries es)

-- a store of what is packed, with these entries
abbrev pub stored : PackedLines → List LineEntry → StoredLines
stored packed entries = record { precision = packed.precision; width = packed.width; entries = entries }

-- what rows keep of what is packed
abbrev pub rows_seen : PackedLines → List (LinePlace × Slots) → StoredLines
rows_seen packed rows = stored packed (entries_in packed rows)

-- the lines that a store has at a place, and whether these samples are one of them
abbrev pub stored_at : StoredLines → LinePlace → PictureLines
stored_at store at = lines_or (no_lines store.precision store.width) store.entries at

-- whether a store has these samples at a place
abbrev pub holds_line : StoredLines → LinePlace → List ℕ → Bool
holds_line store at samples = set.contains (stored_at store at).lines samples

-- at one place the lines have changed so, and elsewhere nothing has
pub record ChangesAt (old : StoredLines) (at : LinePlace) (Change : PictureLines → PictureLines → Type 0) (new : StoredLines) : Type 0 where
  pub precision : new.precision ≡ old.precision
  pub width : new.width ≡ old.width
  pub lines : PictureLines
  pub changed : Change (stored_at old at) lines
  pub puts : PutsAt old.entries at lines new.entries

-- one line with its sources was put in at a place
abbrev pub TakesLine : StoredLines → LinePlace → List ℕ → List ℕ → StoredLines → Type 0
TakesLine old at samples sources new = ChangesAt old at (λ was now. PutsLine was samples sources now) new

-- the line of a place that has i others below it got a source
abbrev pub AddsSource : StoredLines → LinePlace → ℕ → ℕ → StoredLines → Type 0
AddsSource old at i source new = ChangesAt old at (λ was now. MarksLine was i source now) new
