-- A line that survives in the head of the piece that the input's end cuts off, and what else that head gives, which is nothing.
use Rattle.std.proofs.Common.{ℕ, true, List, [], ◌∷◌, refl, ap, lit<, arith, inr}
use Rattle.std.specs.Prelude.{get_or}
use Rattle.jls_partial.specs.Reading.{reading_of}
use Rattle.jls_marker.specs.ComponentIndex.{index_of}
use Rattle.jls_marker.specs.MarkerCodes.{has_segment}
use Rattle.jls_marker.specs.HeaderState.{HeaderState}
use Rattle.jls_marker.specs.Headers.{headers_after}
use Rattle.jls_copy.specs.Course.{by_input, CopyUnit, segment, scan, Course, IsCourse, with_soi}
use Rattle.jls_copy.specs.declared.end.End.TheVariants.{Input}
use Rattle.jls_write.specs.Picture.{WholePicture}
use Rattle.jls_copy_laws.specs.CopyScans.{ScanPiece, ScanWithData, HasScans}
use Rattle.jls_copy_laws.specs.Gives.{GivesReading}
use Rattle.jls_copy_laws.proofs.CopyScans.{course_has_scans}
use Rattle.jls_copy_laws.proofs.Members.{bytes_of_test}
use Rattle.jls_headline.specs.Damaged.{Damaged, picture_reading, Survives}
use Rattle.jls_headline.specs.Trimmed.{prefix, TrimmedCopy}
use Rattle.jls_headline.proofs.LostIntervals.{damaged_copies_give_no_other, surviving_lines_are_given}
use Rattle.jls_headline.proofs.Trims.{trimmed_copies_are_damaged}
use Rattle.jls_headline.proofs.PremiseExamples.{both_lines, another_head}
use Rattle.jls_headline.proofs.ColumnFiles.{byte_is_piece, scan_payload, last_scan, column_frame, framed, one_scan_survives}
use Rattle.jls_headline.proofs.ColumnFiles.{one_scan_trimmed}
use Rattle.jls_headline.proofs.TwoLineCopies.{shape, pieces_read}

-- a column of the samples 1 and 9, in one interval
abbrev pic : WholePicture
pic = record { shape = shape; lines = ((1 ∷ []) ∷ (9 ∷ []) ∷ []) ∷ [] }

-- SOI, SOF55 and SOS; the first byte of scan data, which has the 1 and some bits of the 9; and the input's end
abbrev copy : List ℕ
copy =
    0xFF ∷ 0xD8 ∷ 0xFF ∷ 0xF7 ∷ 0 ∷ 0x0B ∷ 8 ∷ 0 ∷ 2 ∷ 0 ∷ 1 ∷ 1 ∷ 1 ∷ 0x11 ∷ 0
    ∷ 0xFF ∷ 0xDA ∷ 0 ∷ 8 ∷ 1 ∷ 1 ∷ 0 ∷ 0 ∷ 0 ∷ 0 ∷ 0x50 ∷ []

abbrev final : HeaderState
final = record (framed 2) { scans = 1 }

abbrev units : List CopyUnit
units = segment 0 0xF7 (column_frame 2) ∷ scan 0 0xDA scan_payload both_lines [] (0x50 ∷ []) (by_input 0) ∷ []

abbrev course : Course
course = record { begin = 2; units = units; headers = final; end = Input 26 }

is_course : IsCourse copy course
unfolding headers_after index_of has_segment
is_course =
    with_soi 0 _ units final (Input 26) (
      framed 2,
      _,
      refl,
      ((refl, lit< tt), refl),
      last_scan (framed 2) final 15 both_lines [] (0x50 ∷ []) (by_input 0) refl refl tt (byte_is_piece 0x50 (lit< tt)),
    )

-- so it has one scan, of one piece that is cut off
abbrev piece : ScanPiece
piece = record { bytes = 0x50 ∷ []; ended_by_input = true }

abbrev scan_data : ScanWithData
scan_data = record { scan = both_lines; marks = []; pieces = piece ∷ [] }

scans : HasScans copy shape (scan_data ∷ [])
scans = course_has_scans copy course shape (bytes_of_test copy refl) is_course refl

-- the piece reads as no lines, and its head is the first line
line_0 : Survives pic copy 0 0
line_0 =
    one_scan_survives copy scan_data pic scans 0 0
    ([], record { rise = tt; marks_are = refl }, 0, piece, (0, lit< tt, refl), (_, inr (refl, another_head), (0, lit< tt, refl)))

-- so the copy gives it
line_0_is_given : GivesReading copy (picture_reading pic 0 0)
line_0_is_given = surviving_lines_are_given pic copy 0 0 line_0

-- The second byte is lost: the copy is a damaged copy of the picture, and gives no other line --------------------

is_trimmed : TrimmedCopy pic copy
is_trimmed =
    one_scan_trimmed copy scan_data pic scans (
      [],
      record { rise = tt; marks_are = refl },
      (record { bytes = 0x50 ∷ 0x80 ∷ []; reads = pieces_read.both_read; trimmed = prefix (0x50 ∷ []) (0x80 ∷ []) }, tt),
    )

is_damaged : Damaged pic copy
is_damaged = trimmed_copies_are_damaged pic copy is_trimmed

no_other_is_given : GivesReading copy (reading_of 0 1 (7 ∷ [])) → ⊥
no_other_is_given gives =
    (let is = damaged_copies_give_no_other pic copy is_damaged (reading_of 0 1 (7 ∷ [])) gives in
    let e = ap (λ (xs : List ℕ). get_or xs 0 0) is.2 in omega (arith, e))
