-- Two copies of a picture of two lines, of which each has lost another line: every premise of the laws is met. And what there is where a
-- premise is not.
use Rattle.std.proofs.Common.{◌≡◌, ℕ, zero, suc, List, [], ◌∷◌, refl, sym, ap, subst, lit<, lit≤, arith, inl, inr}
use Rattle.std.specs.Prelude.{get_or}
use Rattle.std.specs.List.{AllByRecursion, Contains}
use Rattle.jls_interval.proofs.PiecesReadOnce.{reads_once}
use Rattle.jls_partial.specs.Reading.{Reading, reading_of}
use Rattle.jls_marker.specs.Scan.{Scan, intervals}
use Rattle.jls_copy.specs.Numbers.{PieceNumber, Interval, mark_before, numbers_after}
use Rattle.jls_copy.specs.Pieces.{placed, value_of}
use Rattle.jls_copy.specs.CopyReads.{CopyReads}
use Rattle.jls_copy.specs.ReadCopy.{ReadCopy}
use Rattle.jls_file_laws.specs.Covering.{IsLineOf}
use Rattle.jls_copy_laws.specs.CopyScans.{ScanPiece, ScanWithData, HasScans}
use Rattle.jls_copy_laws.specs.Gives.{PieceGives, ScanGives, GivesReading}
use Rattle.jls_copy_laws.proofs.CopyScans.{one_list_of_scans}
use Rattle.jls_headline.specs.Damaged.{AreNumbers, Damaged, picture_reading, Survives, EachLineSurvives}
use Rattle.jls_headline.specs.Trimmed.{whole, prefix, TrimmedCopy}
use Rattle.jls_copy_laws.proofs.Members.{none_in, first_or_rest}
use Rattle.jls_headline.proofs.CopyGives.{copy_has_shape}
use Rattle.jls_headline.proofs.LostIntervals.{given_by_scan, surviving_lines_are_given}
use Rattle.jls_headline.proofs.Trims.{trimmed_copies_are_damaged}
use Rattle.jls_headline.proofs.TwoLineCopies.{shape, pic_and, pic, bits_8, parameters_8, plan, first, second, third, piece_of, first_data}
use Rattle.jls_headline.proofs.ColumnFiles.{column_plan, one_scan_gives, one_scan_survives, one_scan_trimmed}
use Rattle.jls_headline.proofs.TwoLineCopies.{second_data, third_data, first_scans, second_scans, third_scans, pieces_read}

-- The premises are met -------------------------------------------------------------------------------------------

-- no marker is seen in the first copy, and that before interval 1 in the second
first_numbers : AreNumbers first_data []
first_numbers = record { rise = tt; marks_are = refl }

second_numbers : AreNumbers second_data (1 ∷ [])
second_numbers = record { rise = (lit< tt, lit≤ tt, lit< tt, tt); marks_are = refl }

-- each copy has only lost intervals and been trimmed: of the second's first piece no byte is left
first_is_trimmed : (more : List (List (List ℕ))) → TrimmedCopy (pic_and more) first
first_is_trimmed more =
    one_scan_trimmed first first_data (pic_and more) first_scans (
      [],
      first_numbers,
      (record { bytes = 0x80 ∷ []; reads = pieces_read.zero_read; trimmed = whole (0x80 ∷ []) }, tt),
    )

second_is_trimmed : (more : List (List (List ℕ))) → TrimmedCopy (pic_and more) second
second_is_trimmed more =
    one_scan_trimmed second second_data (pic_and more) second_scans (
      1 ∷ [],
      second_numbers,
      (
        record { bytes = 0x80 ∷ []; reads = pieces_read.zero_read; trimmed = prefix [] (0x80 ∷ []) },
        (record { bytes = 0x40 ∷ []; reads = pieces_read.largest_read; trimmed = whole (0x40 ∷ []) }, tt),
      ),
    )

-- so they are damaged copies
pub both_are_damaged : (more : List (List (List ℕ))) → AllByRecursion (Damaged (pic_and more)) (first ∷ second ∷ [])
both_are_damaged more = (
  trimmed_copies_are_damaged (pic_and more) first (first_is_trimmed more),
  (trimmed_copies_are_damaged (pic_and more) second (second_is_trimmed more), tt),
)

-- and each line survives in one of them
pub line_0 : (more : List (List (List ℕ))) → Survives (pic_and more) first 0 0
line_0 more =
    one_scan_survives first first_data (pic_and more) first_scans 0 0
    ([], first_numbers, 0, piece_of (0x80 ∷ []), (0, lit< tt, refl), (_, inl pieces_read.zero_read, (0, lit< tt, refl)))

pub line_1 : (more : List (List (List ℕ))) → Survives (pic_and more) second 0 1
line_1 more =
    one_scan_survives second second_data (pic_and more) second_scans 0 1
    (1 ∷ [], second_numbers, 1, piece_of (0x40 ∷ []), (1, lit< tt, refl), (_, inl pieces_read.largest_read, (0, lit< tt, refl)))

pub each_line_survives : (more : List (List (List ℕ))) → EachLineSurvives (pic_and more) (first ∷ second ∷ [])
each_line_survives more zero zero c l = (first, (0, lit< tt, refl), line_0 more)
each_line_survives more zero (suc zero) c l = (second, (1, lit< tt, refl), line_1 more)
each_line_survives more zero (suc (suc line)) c l = absurd (omega (arith, l))
each_line_survives more (suc component) line c l = absurd (omega (arith, c))

-- What is read of it ---------------------------------------------------------------------------------------------

-- what is read of a copy of this shape has the shape
pub shape_read : (copy : List ℕ) (scans : List ScanWithData) (read : ReadCopy) → HasScans copy shape scans → CopyReads copy read
    → read.partial.shape ≡ shape
shape_read copy scans read has reads =
    let own = copy_has_shape copy has.are_bytes read reads in (one_list_of_scans copy read.partial.shape shape own.0 scans own.1 has).0

-- Where a premise is not met -------------------------------------------------------------------------------------

-- line 1 survives in the second copy alone: the piece of the first has line 0
piece_has_no_line_1 : PieceGives plan 0 (piece_of (0x80 ∷ [])) (picture_reading pic 0 1) → ⊥
piece_has_no_line_1 (lines, inl reads, c) =
    let e : (0 ∷ []) ∷ [] ≡ lines = reads_once bits_8 parameters_8 1 1 1 (lit< tt) (0x80 ∷ []) _ lines pieces_read.zero_read reads in
    of_placed (subst (λ (xs : List (List ℕ)). Contains (placed (0 ∷ []) 0 0 xs) (picture_reading pic 0 1)) (sym e) c)
  where
    of_placed : Contains (reading_of 0 0 (0 ∷ []) ∷ []) (picture_reading pic 0 1) → ⊥
    of_placed c = elim (first_or_rest (picture_reading pic 0 1) (reading_of 0 0 (0 ∷ [])) [] c) [
      | inl same ↦ (let n = ap (λ (r : Reading). r.line) same in omega (arith, n))
      | inr later ↦ none_in (picture_reading pic 0 1) later
    ]
piece_has_no_line_1 (lines, inr (cut, head), c) = absurd cc

scan_has_no_line_1 : ScanGives first_data (picture_reading pic 0 1) → ⊥
scan_has_no_line_1 (k, piece, c, gives) =
    elim (first_or_rest (Interval k, piece) (Interval 0, piece_of (0x80 ∷ [])) [] c) [
      | inl e ↦
          piece_has_no_line_1
          (subst (λ (x : PieceNumber × ScanPiece). PieceGives plan (value_of x.0) x.1 (picture_reading pic 0 1)) (sym e) gives)
      | inr later ↦ none_in (Interval k, piece) later
    ]

pub line_1_is_lost : Survives pic first 0 1 → ⊥
line_1_is_lost survives =
    let g = given_by_scan first shape (first_data ∷ []) first_scans (picture_reading pic 0 1)
    (surviving_lines_are_given pic first 0 1 survives) in
    elim (first_or_rest g.0 first_data [] g.1) [
      | inl e ↦ scan_has_no_line_1 (subst (λ (d : ScanWithData). ScanGives d (picture_reading pic 0 1)) (sym e) g.2)
      | inr later ↦ none_in g.0 later
    ]

-- a piece that reads as another line gives that line: the third copy is no damaged copy of the picture
pub third_gives_another : GivesReading third (reading_of 0 0 (1 ∷ []))
third_gives_another =
    one_scan_gives third third_data shape (reading_of 0 0 (1 ∷ [])) third_scans
    (0, piece_of (0x50 ∷ []), (0, lit< tt, refl), (_, inl pieces_read.one_read, (0, lit< tt, refl)))

pub another_is_not_of_it : IsLineOf pic (reading_of 0 0 (1 ∷ [])) → ⊥
another_is_not_of_it is = (let e = ap (λ xs. get_or xs 0 0) is.2 in omega (arith, e))

-- where eight marks in a row are lost the number doesn't come back: the mark before interval 9 gives the number 1
abbrev ten_lines : Scan
ten_lines = column_plan 10

eight_marks_lost : numbers_after (intervals ten_lines) 0 (mark_before 9 ∷ []) ≡ Interval 1 ∷ []
eight_marks_lost = refl
