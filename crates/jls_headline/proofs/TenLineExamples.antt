-- A picture of ten lines, and a copy of it that has lost seven of them with their marks: the numbers of its pieces are 0, 8 and 9.
use Rattle.std.proofs.Common.{ℕ, List, [], ◌∷◌, refl, ap, lit<, lit≤, arith, inl}
use Rattle.std.specs.Prelude.{get_or}
use Rattle.jls_values.specs.Shape.{PictureShape}
use Rattle.jls_partial.specs.Reading.{reading_of}
use Rattle.jls_marker.specs.ComponentIndex.{index_of}
use Rattle.jls_marker.specs.Headers.{headers_after}
use Rattle.jls_copy.specs.ScanData.{ClosedPiece}
use Rattle.jls_copy.specs.Course.{by_marker, Course, IsCourse}
use Rattle.jls_write.specs.Picture.{WholePicture}
use Rattle.jls_copy_laws.specs.CopyScans.{ScanWithData, HasScans}
use Rattle.jls_copy_laws.specs.Gives.{GivesReading}
use Rattle.jls_copy_laws.proofs.CopyScans.{course_has_scans}
use Rattle.jls_copy_laws.proofs.Members.{bytes_of_test}
use Rattle.jls_headline.specs.Damaged.{AreNumbers, Damaged, Survives}
use Rattle.jls_headline.specs.Trimmed.{whole, TrimmedCopy}
use Rattle.jls_headline.proofs.LostIntervals.{damaged_copies_give_no_other}
use Rattle.jls_headline.proofs.Trims.{trimmed_copies_are_damaged}
use Rattle.jls_headline.proofs.ColumnFiles.{column_shape, column_plan, headers_and, column_course, AreTaken, is_column_course}
use Rattle.jls_headline.proofs.ColumnFiles.{byte_is_piece, one_scan_gives, one_scan_survives, one_scan_trimmed}
use Rattle.jls_headline.proofs.TwoLineCopies.{piece_of, pieces_read}

abbrev shape : PictureShape
shape = column_shape 10

-- a column of ten samples: line 8 is 255, and the others are 0
abbrev dark : List ℕ
dark = 0 ∷ []

abbrev pic : WholePicture
pic = record { shape = shape; lines = (dark ∷ dark ∷ dark ∷ dark ∷ dark ∷ dark ∷ dark ∷ dark ∷ (255 ∷ []) ∷ dark ∷ []) ∷ [] }

-- SOI, SOF55, DRI and SOS; line 0, RST7, line 8, RST0, line 9; EOI. RST0 to RST6 before line 8 are lost
abbrev copy : List ℕ
copy = headers_and 10 (0x80 ∷ 0xFF ∷ 0xD7 ∷ 0x40 ∷ 0xFF ∷ 0xD0 ∷ 0x80 ∷ 0xFF ∷ 0xD9 ∷ [])

ten_lines_taken : AreTaken 10
unfolding headers_after index_of
ten_lines_taken = record { frame = refl; scan = refl }

abbrev closed : List ClosedPiece
closed = record { piece = 0x80 ∷ []; fill = 0; mark = 7 } ∷ record { piece = 0x40 ∷ []; fill = 0; mark = 0 } ∷ []

abbrev course : Course
course = column_course 10 closed (0x80 ∷ []) by_marker 38

is_course : IsCourse copy course
is_course =
    is_column_course 10 ten_lines_taken closed (0x80 ∷ []) by_marker
    ((byte_is_piece 0x80 (lit< tt), lit< tt), ((byte_is_piece 0x40 (lit< tt), lit< tt), tt)) (byte_is_piece 0x80 (lit< tt))

-- so it has one scan, of three pieces
abbrev scan_data : ScanWithData
scan_data = record {
  scan = column_plan 10;
  marks = 7 ∷ 0 ∷ [];
  pieces = piece_of (0x80 ∷ []) ∷ piece_of (0x40 ∷ []) ∷ piece_of (0x80 ∷ []) ∷ [];
}

scans : HasScans copy shape (scan_data ∷ [])
scans = course_has_scans copy course shape (bytes_of_test copy refl) is_course refl

are_numbers : AreNumbers scan_data (8 ∷ 9 ∷ [])
are_numbers = record { rise = (lit< tt, lit≤ tt, lit< tt, (lit< tt, lit≤ tt, lit< tt, tt)); marks_are = refl }

-- nothing but whole intervals is lost
is_trimmed : TrimmedCopy pic copy
is_trimmed =
    one_scan_trimmed copy scan_data pic scans (
      8 ∷ 9 ∷ [],
      are_numbers,
      (
        record { bytes = 0x80 ∷ []; reads = pieces_read.zero_read; trimmed = whole (0x80 ∷ []) },
        (
          record { bytes = 0x40 ∷ []; reads = pieces_read.largest_read; trimmed = whole (0x40 ∷ []) },
          (record { bytes = 0x80 ∷ []; reads = pieces_read.zero_read; trimmed = whole (0x80 ∷ []) }, tt),
        ),
      ),
    )

-- so it is a damaged copy
is_damaged : Damaged pic copy
is_damaged = trimmed_copies_are_damaged pic copy is_trimmed

-- and line 8 survives in it
line_8 : Survives pic copy 0 8
line_8 =
    one_scan_survives copy scan_data pic scans 0 8
    (8 ∷ 9 ∷ [], are_numbers, 8, piece_of (0x40 ∷ []), (1, lit< tt, refl), (_, inl pieces_read.largest_read, (0, lit< tt, refl)))

-- Eight markers lost ---------------------------------------------------------------------------------------------

-- a column in which line 9 alone is 255
abbrev last_bright : WholePicture
last_bright = record { shape = shape; lines = (dark ∷ dark ∷ dark ∷ dark ∷ dark ∷ dark ∷ dark ∷ dark ∷ dark ∷ (255 ∷ []) ∷ []) ∷ [] }

-- line 0, RST0, line 9: RST0 to RST7 before it are lost, and the one that is seen is that before line 9
abbrev eight_lost : List ℕ
eight_lost = headers_and 10 (0x80 ∷ 0xFF ∷ 0xD0 ∷ 0x40 ∷ 0xFF ∷ 0xD9 ∷ [])

abbrev one_closed : List ClosedPiece
one_closed = record { piece = 0x80 ∷ []; fill = 0; mark = 0 } ∷ []

abbrev course_of_two : Course
course_of_two = column_course 10 one_closed (0x40 ∷ []) by_marker 35

is_course_of_two : IsCourse eight_lost course_of_two
is_course_of_two =
    is_column_course 10 ten_lines_taken one_closed (0x40 ∷ []) by_marker ((byte_is_piece 0x80 (lit< tt), lit< tt), tt)
    (byte_is_piece 0x40 (lit< tt))

abbrev two_pieces : ScanWithData
two_pieces = record { scan = column_plan 10; marks = 0 ∷ []; pieces = piece_of (0x80 ∷ []) ∷ piece_of (0x40 ∷ []) ∷ [] }

scans_of_two : HasScans eight_lost shape (two_pieces ∷ [])
scans_of_two = course_has_scans eight_lost course_of_two shape (bytes_of_test eight_lost refl) is_course_of_two refl

-- the piece of line 9 counts as interval 1, and gives line 1 what the picture doesn't have there
gives_line_1 : GivesReading eight_lost (reading_of 0 1 (255 ∷ []))
gives_line_1 =
    one_scan_gives eight_lost two_pieces shape (reading_of 0 1 (255 ∷ [])) scans_of_two
    (1, piece_of (0x40 ∷ []), (1, lit< tt, refl), (_, inl pieces_read.largest_read, (0, lit< tt, refl)))

eight_lost_is_no_damaged_copy : Damaged last_bright eight_lost → ⊥
eight_lost_is_no_damaged_copy damaged =
    (let is = damaged_copies_give_no_other last_bright eight_lost damaged (reading_of 0 1 (255 ∷ [])) gives_line_1 in
    let e = ap (λ xs. get_or xs 0 0) is.2 in omega (arith, e))
