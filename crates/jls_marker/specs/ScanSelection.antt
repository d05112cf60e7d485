-- What a scan header selects: its components, by their identifiers and in the order in which they take turns, and whether they are
-- interleaved by line or by sample (T.87, C.2.3). A scan of one component may say that it is interleaved by line, or not.
use Rattle.std.specs.Prelude.{◌≡◌, ℕ, ◌≤◌, ◌<◌, Bool, true, false, ◌&&◌, ◌||◌, not, nat_le, nat_lt, List, [], ◌∷◌, length, Result}
use Rattle.std.specs.Prelude.{if◌then◌else◌}
use Rattle.std.specs.List.{AllByRecursion}
use Rattle.jls_values.specs.Shape.{has_repeat}
use Rattle.jls_marker.specs.Faults.{first_failing}
use Rattle.jls_marker.specs.declared.fault.MarkerFault.{MarkerFault}
use Rattle.jls_marker.specs.declared.fault.MarkerFault.TheVariants as fault

-- the identifiers that a scan header lists, and whether they are interleaved by line or by sample (T.87 C.2.3)
pub record ScanSelection : Type 0 where
  pub ids : List ℕ
  pub line : Bool
  pub by_sample : Bool

-- one to four identifiers, which are bytes and differ. More than one are interleaved by line or by sample, and not both. One is not
-- interleaved by sample (T.87 C.2.3)
pub record IsScanSelection (s : ScanSelection) : Type 0 where
  pub ids_at_least : 1 ≤ length s.ids
  pub ids_at_most : length s.ids ≤ 4
  pub ids_are_bytes : AllByRecursion (λ id. id < 256) s.ids
  pub ids_differ : has_repeat s.ids ≡ false
  pub interleaved : 1 < length s.ids → s.by_sample ≡ false → s.line ≡ true
  pub not_both : s.by_sample ≡ true → s.line ≡ false
  pub several : s.by_sample ≡ true → 1 < length s.ids

-- a selection that is not interleaved by sample (T.87 C.2.3)
abbrev pub selection : List ℕ → Bool → ScanSelection
selection ids line = record { ids = ids; line = line; by_sample = false }

-- a selection that is interleaved by sample (T.87 C.2.3)
abbrev pub sample_selection : List ℕ → ScanSelection
sample_selection ids = record { ids = ids; line = false; by_sample = true }

-- the value of ILV of a selection: 2 by sample, 1 by line, and else 0 (T.87 C.2.3)
abbrev pub interleave_of : ScanSelection → ℕ
interleave_of s = if s.by_sample then 2 else if s.line then 1 else 0

-- the selection of these identifiers, or the first fault (T.87 C.2.3)
abbrev pub selection_of : List ℕ → Bool → Result ScanSelection MarkerFault
selection_of ids line =
    first_failing
    ((nat_le 1 (length ids) && nat_le (length ids) 4, fault.Length)
    ∷ (not (has_repeat ids), fault.RepeatedComponent)
    ∷ (nat_le (length ids) 1 || line, fault.Interleave)
    ∷ []) (selection ids line)

-- the selection of these identifiers by sample, or the first fault (T.87 C.2.3)
abbrev pub sample_selection_of : List ℕ → Result ScanSelection MarkerFault
sample_selection_of ids =
    first_failing
    ((nat_le 1 (length ids) && nat_le (length ids) 4, fault.Length)
    ∷ (not (has_repeat ids), fault.RepeatedComponent)
    ∷ (nat_lt 1 (length ids), fault.Interleave)
    ∷ []) (sample_selection ids)
