-- A file of three components by line, of 2 columns and 2 rows, as CharLS 2.4.1 wrote it.
use Rattle.std.proofs.Common.{◌≡◌, ℕ, List, [], ◌∷◌, Some, refl, lit<, arith, false}
use Rattle.jls_values.specs.Params.{CodingParameters}
use Rattle.jls_values.specs.Shape.{PictureShape}
use Rattle.jls_partial.specs.Reading.{reading_of}
use Rattle.jls_marker.specs.ComponentIndex.{index_of}
use Rattle.jls_marker.specs.HeaderState.{HeaderState, no_headers}
use Rattle.jls_marker.specs.Headers.{headers_after}
use Rattle.jls_marker.specs.Scan.{Scan}
use Rattle.jls_copy.specs.Numbers.{Interval}
use Rattle.jls_copy.specs.Course.{Course, IsCourse}
use Rattle.jls_copy.specs.Pieces.{FoundPiece, Lines, readings_of, pieces}
use Rattle.jls_copy.proofs.OnePieceFile.{course_of_one_piece, one_piece_course}

abbrev pub shape : PictureShape
shape = record { precision = 8; width = 2; height = 2; ids = 1 ∷ 2 ∷ 3 ∷ [] }

abbrev pub bits_8 : CodingParameters
bits_8 = record { precision = 8; maxval = 255; t1 = 3; t2 = 7; t3 = 21; reset = 64 }

abbrev pub plan : Scan
plan = record { components = 0 ∷ 1 ∷ 2 ∷ []; params = bits_8; width = 2; height = 2; restart_interval = 0; by_sample = false }

-- SOI and SOF55, SOS, the scan data, EOI
abbrev pub file : List ℕ
file =
    0xFF ∷ 0xD8 ∷ 0xFF ∷ 0xF7 ∷ 0x00 ∷ 0x11 ∷ 0x08 ∷ 0x00 ∷ 0x02 ∷ 0x00 ∷ 0x02 ∷ 0x03 ∷ 0x01 ∷ 0x11 ∷ 0x00 ∷ 0x02 ∷ 0x11 ∷ 0x00 ∷ 0x03
    ∷ 0x11 ∷ 0x00
    ∷ 0xFF ∷ 0xDA ∷ 0x00 ∷ 0x0C ∷ 0x03 ∷ 0x01 ∷ 0x00 ∷ 0x02 ∷ 0x00 ∷ 0x03 ∷ 0x00 ∷ 0x00 ∷ 0x01 ∷ 0x00
    ∷ 0x5A ∷ 0x5A ∷ 0x2C ∷ 0x9A ∷ 0x5D ∷ 0x80 ∷ 0xFF ∷ 0xD9 ∷ []

abbrev framed : HeaderState
framed = record no_headers { frame = Some shape }

abbrev final : HeaderState
final = record framed { scans = 1 }

abbrev pub piece : FoundPiece
piece = record { scan = 0; plan = plan; number = Interval 0; offset = 35; bytes = 0x5A ∷ 0x5A ∷ 0x2C ∷ 0x9A ∷ 0x5D ∷ 0x80 ∷ [] }

abbrev frame : List ℕ
frame = 0x08 ∷ 0x00 ∷ 0x02 ∷ 0x00 ∷ 0x02 ∷ 0x03 ∷ 0x01 ∷ 0x11 ∷ 0x00 ∷ 0x02 ∷ 0x11 ∷ 0x00 ∷ 0x03 ∷ 0x11 ∷ 0x00 ∷ []

abbrev sos : List ℕ
sos = 0x03 ∷ 0x01 ∷ 0x00 ∷ 0x02 ∷ 0x00 ∷ 0x03 ∷ 0x00 ∷ 0x00 ∷ 0x01 ∷ 0x00 ∷ []

abbrev pub course : Course
course = course_of_one_piece frame sos plan piece.bytes final

pub is_course : IsCourse file course
unfolding headers_after index_of
is_course = one_piece_course frame sos plan piece.bytes framed final (lit< tt) refl (lit< tt) refl
    ((λ h. refl), ((λ h. refl), ((λ h. refl), ((λ h. refl), ((λ h. refl), (λ (h : 0x80 ≡ 0xFF). omega (arith, h))))))) refl

its_piece : pieces course ≡ piece ∷ []
its_piece = refl

-- the lines that CharLS was given: in each row those of the components in turn
abbrev pub lines : List (List ℕ)
lines = (1 ∷ 2 ∷ []) ∷ (3 ∷ 4 ∷ []) ∷ (5 ∷ 5 ∷ []) ∷ (1 ∷ 3 ∷ []) ∷ (3 ∷ 4 ∷ []) ∷ (6 ∷ 5 ∷ []) ∷ []

-- so the first row has the first three, and the second row the others
its_readings : readings_of piece (Lines lines)
    ≡ reading_of 0 0 (1 ∷ 2 ∷ []) ∷ reading_of 1 0 (3 ∷ 4 ∷ []) ∷ reading_of 2 0 (5 ∷ 5 ∷ [])
    ∷ reading_of 0 1 (1 ∷ 3 ∷ []) ∷ reading_of 1 1 (3 ∷ 4 ∷ []) ∷ reading_of 2 1 (6 ∷ 5 ∷ []) ∷ []
its_readings = refl
