-- What the program keeps for a set of lines.
use Rattle.std.specs.List.{AllByRecursion}
use Rattle.std.specs.Prelude.{◌≡◌, ℕ, ◌≤◌, None, List}
use Rattle.jls_values.specs.OrderedSet as set
use Rattle.jls_partial.specs.declared.slots.Slot.{Slot}
use Rattle.jls_partial.specs.InsertFaults.{samples_fault}
use Rattle.jls_partial.specs.LineSet.{PictureLines}
use Rattle.jls_partial.specs.Marks.{marks_of}
use Rattle.jls_partial.specs.Packed.{kept_of, lines_of, IsPacked}

-- the set that they are seen as
abbrev pub seen_lines : ℕ → ℕ → List ℕ → List Slot → PictureLines
seen_lines precision width packed slots = record {
  precision = precision;
  width = width;
  lines = set.from_list (lines_of width packed slots);
  marks = set.from_list (marks_of (kept_of width packed slots));
}

-- the lines are packed, and each fits the precision and the width
pub record IsLineSet (precision width : ℕ) (packed : List ℕ) (slots : List Slot) : Type 0 where
  pub precision_at_most : precision ≤ 16
  pub width_at_least : 1 ≤ width
  pub packed_lines : IsPacked width packed slots
  pub fitting : AllByRecursion (λ samples. samples_fault precision width samples ≡ None) (lines_of width packed slots)
