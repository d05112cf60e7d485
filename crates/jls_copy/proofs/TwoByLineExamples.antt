-- A file of two components by line, of 2 columns and 2 rows. CharLS 2.4.1 wrote its scan data for four components by line of one row, of
-- which the first two are 0 throughout: so the other two have the same code as a second row of two components, since the row before the
-- first counts as 0 (T.87 A.2.1). The headers of two components are by hand, as CharLS writes none. `jpeg` of Debian's libjpeg-tools reads
-- the file as these lines.
use Rattle.std.proofs.Common.{◌≡◌, ℕ, List, [], ◌∷◌, Some, refl, lit<, arith, false}
use Rattle.jls_values.specs.Params.{CodingParameters}
use Rattle.jls_values.specs.Shape.{PictureShape}
use Rattle.jls_partial.specs.Reading.{reading_of}
use Rattle.jls_marker.specs.ComponentIndex.{index_of}
use Rattle.jls_marker.specs.HeaderState.{HeaderState, no_headers}
use Rattle.jls_marker.specs.Headers.{headers_after}
use Rattle.jls_marker.specs.Scan.{Scan}
use Rattle.jls_interval.specs.Lines.{interval_shape}
use Rattle.jls_piece.specs.Lines.{line_piece}
use Rattle.jls_copy.specs.Numbers.{Interval}
use Rattle.jls_copy.specs.IntervalOf.{interval_of}
use Rattle.jls_copy.specs.Course.{Course, IsCourse}
use Rattle.jls_copy.specs.Pieces.{FoundPiece, Lines, readings_of, pieces}
use Rattle.jls_copy.proofs.OnePieceFile.{course_of_one_piece, one_piece_course}

abbrev pub shape : PictureShape
shape = record { precision = 8; width = 2; height = 2; ids = 1 ∷ 2 ∷ [] }

abbrev pub bits_8 : CodingParameters
bits_8 = record { precision = 8; maxval = 255; t1 = 3; t2 = 7; t3 = 21; reset = 64 }

abbrev pub plan : Scan
plan = record { components = 0 ∷ 1 ∷ []; params = bits_8; width = 2; height = 2; restart_interval = 0; by_sample = false }

-- SOI and SOF55, SOS, the scan data, EOI
abbrev pub file : List ℕ
file =
    0xFF ∷ 0xD8 ∷ 0xFF ∷ 0xF7 ∷ 0x00 ∷ 0x0E ∷ 0x08 ∷ 0x00 ∷ 0x02 ∷ 0x00 ∷ 0x02 ∷ 0x02 ∷ 0x01 ∷ 0x11 ∷ 0x00 ∷ 0x02 ∷ 0x11 ∷ 0x00
    ∷ 0xFF ∷ 0xDA ∷ 0x00 ∷ 0x0A ∷ 0x02 ∷ 0x01 ∷ 0x00 ∷ 0x02 ∷ 0x00 ∷ 0x00 ∷ 0x01 ∷ 0x00
    ∷ 0xF1 ∷ 0x7A ∷ 0x50 ∷ 0xFF ∷ 0xD9 ∷ []

abbrev framed : HeaderState
framed = record no_headers { frame = Some shape }

abbrev final : HeaderState
final = record framed { scans = 1 }

abbrev pub piece : FoundPiece
piece = record { scan = 0; plan = plan; number = Interval 0; offset = 30; bytes = 0xF1 ∷ 0x7A ∷ 0x50 ∷ [] }

abbrev frame : List ℕ
frame = 0x08 ∷ 0x00 ∷ 0x02 ∷ 0x00 ∷ 0x02 ∷ 0x02 ∷ 0x01 ∷ 0x11 ∷ 0x00 ∷ 0x02 ∷ 0x11 ∷ 0x00 ∷ []

abbrev sos : List ℕ
sos = 0x02 ∷ 0x01 ∷ 0x00 ∷ 0x02 ∷ 0x00 ∷ 0x00 ∷ 0x01 ∷ 0x00 ∷ []

abbrev pub course : Course
course = course_of_one_piece frame sos plan piece.bytes final

pub is_course : IsCourse file course
unfolding headers_after index_of
is_course = one_piece_course frame sos plan piece.bytes framed final (lit< tt) refl (lit< tt) refl
    ((λ h. refl), ((λ h. refl), (λ (h : 0x50 ≡ 0xFF). omega (arith, h)))) refl

its_piece : pieces course ≡ piece ∷ []
its_piece = refl

-- two rows of two components are four lines
its_interval : interval_of plan 0 ≡ line_piece (interval_shape bits_8 2 2 4)
its_interval = refl

-- the lines that CharLS was given: here in each row those of the components in turn
abbrev pub lines : List (List ℕ)
lines = (0 ∷ 0 ∷ []) ∷ (0 ∷ 0 ∷ []) ∷ (5 ∷ 7 ∷ []) ∷ (1 ∷ 255 ∷ []) ∷ []

-- so the first row has the first two, and the second row the others
its_readings : readings_of piece (Lines lines)
    ≡ reading_of 0 0 (0 ∷ 0 ∷ []) ∷ reading_of 1 0 (0 ∷ 0 ∷ []) ∷ reading_of 0 1 (5 ∷ 7 ∷ []) ∷ reading_of 1 1 (1 ∷ 255 ∷ []) ∷ []
its_readings = refl
