-- The packed store of lines: the samples of one line after the other, and slots of some of them in ascending order.
use Rattle.std.specs.Cmp.Lexicographic.{slice_cmp}
use Rattle.std.specs.List.{AllByRecursion}
use Rattle.std.specs.List.Sorted.{IsStrictlySortedBy}
use Rattle.std.specs.Ordering.{nat_cmp}
use Rattle.std.specs.declared.cmp.Ordering.{Ordering}
use Rattle.std.specs.declared.cmp.Ordering.TheVariants.{Less}
use Rattle.std.specs.Prelude.{◌≡◌, ℕ, ◌+◌, ◌<◌, ◌≤◌, List, length, map, take, drop, slice_index_or}
use Rattle.jls_values.specs.OrderedSet as set
use Rattle.jls_partial.specs.declared.slots.Slot.{Slot}

-- a line as it is kept: its samples, and its source numbers in ascending order
abbrev pub Kept : Type 0
Kept = List ℕ × List ℕ

-- what the slots say of the samples
abbrev pub kept_of : ℕ → List ℕ → List Slot → List Kept
kept_of width packed slots = map (λ s. (take width (drop s.start packed), set.items s.sources)) slots

-- the samples alone
abbrev pub lines_of : ℕ → List ℕ → List Slot → List (List ℕ)
lines_of width packed slots = map (λ s. take width (drop s.start packed)) slots

-- each slot's samples stand in the store, there are no more slots than samples, and the lines rise
pub record IsPacked (width : ℕ) (packed : List ℕ) (slots : List Slot) : Type 0 where
  pub inside : AllByRecursion (λ s. s.start + width ≤ length packed) slots
  pub few : length slots ≤ length packed
  pub sorted : IsStrictlySortedBy (slice_cmp nat_cmp) (lines_of width packed slots)

-- where an item belongs in a list: those before the place are below it, those from there on above it
pub record IsGap {K : Type 0} (R : K → K → Ordering) (items : List K) (i : ℕ) (x : K) : Type 0 where
  pub within : i ≤ length items
  pub below : (k : ℕ) → k < i → R (slice_index_or items k x) x ≡ Less
  pub above : (k : ℕ) → i ≤ k → k < length items → R x (slice_index_or items k x) ≡ Less
