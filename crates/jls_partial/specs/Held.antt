-- What a store keeps for a partial picture: a set of lines for each place that has a reading, in the order of the places.
use Rattle.std.specs.Cmp.Lexicographic.{slice_cmp}
use Rattle.std.specs.List.{AllByRecursion}
use Rattle.std.specs.List.Sorted.{IsStrictlySortedBy}
use Rattle.std.specs.Ordering.{nat_cmp}
use Rattle.std.specs.Prelude.{◌≡◌, ℕ, true, ◌≤◌, ◌<◌, ◌^◌, None, List, length, map}
use Rattle.jls_values.specs.OrderedSet as set
use Rattle.jls_values.specs.Shape.{PictureShape}
use Rattle.jls_partial.specs.Entries.{BareEntry, Entry}
use Rattle.jls_partial.specs.InsertFaults.{reading_fault}
use Rattle.jls_partial.specs.LineEntries.{LineEntry}
use Rattle.jls_partial.specs.LinePlace.{place_cmp}
use Rattle.jls_partial.specs.LineSet.{AreLineMarksHeld, kept_lines}
use Rattle.jls_partial.specs.Stored.{StoredLines}

-- one line: it has a reading, its readings rise, they are few enough to be counted, and each fits the shape
pub record IsEntry (shape : PictureShape) (e : BareEntry) : Type 0 where
  pub read : 1 ≤ length e.1
  pub sorted : IsStrictlySortedBy (slice_cmp nat_cmp) e.1
  pub countable : length e.1 < 2 ^ 64
  pub fitting : AllByRecursion (λ x. reading_fault shape e.0.component e.0.line x ≡ None) e.1

-- the places rise, and so each line stands once
pub record AreEntries (shape : PictureShape) (entries : List BareEntry) : Type 0 where
  pub sorted : IsStrictlySortedBy place_cmp (map (λ e. e.0) entries)
  pub each : AllByRecursion (IsEntry shape) entries

-- what is kept of one line as an entry, with the sources of each reading and without them
abbrev pub kept_entry : LineEntry → Entry
kept_entry e = (e.0, kept_lines e.1)

-- what is kept of one line as an entry, without the sources
abbrev pub bare_entry : LineEntry → BareEntry
bare_entry e = (e.0, set.items e.1.lines)

-- its lines are of the picture's precision and width, each source is of one of them, and has 32 bits
pub record IsLineEntry (shape : PictureShape) (e : LineEntry) : Type 0 where
  pub entry : IsEntry shape (bare_entry e)
  pub precision : e.1.precision ≡ shape.precision
  pub width : e.1.width ≡ shape.width
  pub marks_held : AreLineMarksHeld e.1
  pub small : (samples : List ℕ) (source : ℕ) → set.contains e.1.marks (samples, source) ≡ true → source < 2 ^ 32

-- what a store keeps: entries in the order of their places, each fit for the shape
pub record IsStore (shape : PictureShape) (entries : List LineEntry) : Type 0 where
  pub sorted : IsStrictlySortedBy place_cmp (map (λ e. e.0) entries)
  pub each : AllByRecursion (IsLineEntry shape) entries

-- a store for a picture of this shape
pub record IsStoreOf (shape : PictureShape) (store : StoredLines) : Type 0 where
  pub precision : store.precision ≡ shape.precision
  pub width : store.width ≡ shape.width
  pub kept : IsStore shape store.entries
