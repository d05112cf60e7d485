-- The readings of an interval that reads as the picture's lines are lines of the picture, and each line of the interval is among them.
use Rattle.std.proofs.Common.{◌≡◌, ℕ, zero, suc, ◌+◌, ◌<◌, ◌≤◌, List, [], ◌∷◌, length, take, refl, sym, subst, arith, inl, inr}
use Rattle.std.specs.Prelude.{◌==◌, get_or, if◌then◌else◌}
use Rattle.std.specs.List.{flat_map, AllByRecursion, Contains, range_with_len}
use Rattle.jls_partial.specs.Reading.{Reading, reading_of}
use Rattle.jls_marker.specs.Scan.{Scan, IsScan, IsScanOf, first_row, row_count, intervals}
use Rattle.jls_marker.proofs.Intervals.{part_the_lines}
use Rattle.jls_copy.specs.Pieces.{placed}
use Rattle.jls_write.specs.Picture.{WholePicture, line_of}
use Rattle.jls_write.specs.WrittenFile.{interval_lines}
use Rattle.jls_file_laws.specs.Covering.{row_readings, IsLineOf}
use Rattle.jls_file_laws.proofs.Covering.{rows_from, placed_rows}
use Rattle.jls_copy_laws.proofs.Members.{none_in, in_rest, first_or_rest, all_at, all_append}

-- lines of interval k of a scan, from its first one on, as readings
abbrev pub placed_in_interval : Scan → ℕ → List (List ℕ) → List Reading
placed_in_interval s k lines = placed s.components (first_row s k) 0 lines

module _ (pic : WholePicture) where
  -- each reading of the rows is a line of them
  IsIn : (ℕ → Type 0) → ℕ → ℕ → Reading → Type 0
  IsIn P row n r = P r.component × (row ≤ r.line) × (r.line < row + n) × (r.samples ≡ line_of pic r.component r.line)

  row_is : (P : ℕ → Type 0) (components : List ℕ) (row first n : ℕ) → first ≤ row → row < first + n → AllByRecursion P components
      → AllByRecursion (IsIn P first n) (row_readings pic components row)
  unfolding IsIn
  row_is P [] row first n low high h = tt
  row_is P (c ∷ cs) row first n low high h = ((h.0, low, high, refl), row_is P cs row first n low high h.1)

  rows_are : (P : ℕ → Type 0) (components : List ℕ) (row m first n : ℕ) → first ≤ row → row + m ≤ first + n → AllByRecursion P components
      → AllByRecursion (IsIn P first n) (flat_map (row_readings pic components) (range_with_len row m))
  rows_are P components row zero first n low high h = tt
  rows_are P components row (suc m) first n low high h =
      all_append (IsIn P first n) (row_readings pic components row) (flat_map (row_readings pic components) (range_with_len (row + 1) m))
      (row_is P components row first n low (omega arith) h)
      (rows_are P components (row + 1) m first n (omega arith) (omega arith) h)

  placed_are : (P : ℕ → Type 0) (components : List ℕ) (row n : ℕ) → 1 ≤ length components → AllByRecursion P components
      → AllByRecursion (IsIn P row n) (placed components row 0 (rows_from pic components row n))
  placed_are P [] row n some h = absurd (omega arith)
  placed_are P (c ∷ cs) row n some h =
      subst (AllByRecursion (IsIn P row n)) (sym (placed_rows pic c cs row n))
      (rows_are P (c ∷ cs) row n row n (omega arith) (omega arith) h)

-- a reading of first lines is one of all
pub first_among : (components : List ℕ) (n : ℕ) (lines : List (List ℕ)) (row place : ℕ) (r : Reading)
    → Contains (placed components row place (take n lines)) r → Contains (placed components row place lines) r
first_among components zero lines row place r c = absurd (none_in r c)
first_among components (suc n) [] row place r c = absurd (none_in r c)
first_among components (suc n) (line ∷ lines) row place r c =
    elim (first_or_rest r (reading_of (get_or components place 0) row line) _ c) [
      | inl e ↦ (0, omega arith, e)
      | inr later ↦
          in_rest r (reading_of (get_or components place 0) row line) _
          (first_among components n lines (if place + 1 == length components then row + 1 else row)
          (if place + 1 == length components then 0 else place + 1) r later)
    ]

-- a reading of the interval's lines is a line of the picture
pub are_lines_of : (pic : WholePicture) (s : Scan) (k : ℕ) (r : Reading) → IsScan s → IsScanOf pic.shape s → k < intervals s
    → Contains (placed_in_interval s k (interval_lines pic s k)) r → IsLineOf pic r
unfolding IsIn
are_lines_of pic s k r is of low c =
    let at = all_at (IsIn pic (λ c. c < length pic.shape.ids) (first_row s k) (row_count s k))
    (placed_in_interval s k (interval_lines pic s k)) r
    (placed_are pic (λ c. c < length pic.shape.ids) s.components (first_row s k) (row_count s k) is.components_at_least of.components_below)
    c in
    let within = (part_the_lines s is.height_at_least).within r.line k low (at.1, at.2) in
    (at.0, subst (λ n. r.line < n) of.height within, at.3)
