-- A file of one column, 1 and 9, that CharLS 2.4.1 wrote, cut after the first byte of its scan data. By hand a fill byte was put before
-- SOI,
-- and a byte 0xFF at the end, as where the input ends before the code of a marker.
use Rattle.std.proofs.Common.{◌≡◌, ℕ, List, [], ◌∷◌, Some, refl, lit<, arith, false}
use Rattle.jls_values.specs.Params.{CodingParameters}
use Rattle.jls_values.specs.Shape.{PictureShape}
use Rattle.jls_partial.specs.Reading.{reading_of}
use Rattle.jls_marker.specs.ComponentIndex.{index_of}
use Rattle.jls_marker.specs.MarkerCodes.{has_segment}
use Rattle.jls_marker.specs.HeaderState.{HeaderState, no_headers}
use Rattle.jls_marker.specs.Headers.{headers_after}
use Rattle.jls_marker.specs.Scan.{Scan}
use Rattle.jls_copy.specs.Numbers.{Interval}
use Rattle.jls_copy.specs.Course.{by_input, CopyUnit, segment, scan, Course, IsCourse, with_soi, with_the_input}
use Rattle.jls_copy.specs.Pieces.{FoundPiece}
use Rattle.jls_copy.specs.CutPieces.{cut_pieces, head_readings}
use Rattle.jls_copy.specs.declared.end.End.TheVariants.{Input}

abbrev pub shape : PictureShape
shape = record { precision = 8; width = 1; height = 2; ids = 1 ∷ [] }

abbrev pub bits_8 : CodingParameters
bits_8 = record { precision = 8; maxval = 255; t1 = 3; t2 = 7; t3 = 21; reset = 64 }

abbrev pub plan : Scan
plan = record { components = 0 ∷ []; params = bits_8; width = 1; height = 2; restart_interval = 0; by_sample = false }

-- a fill byte, SOI and SOF55; SOS; the first byte of scan data, and 0xFF
abbrev pub copy : List ℕ
copy =
    0xFF ∷ 0xFF ∷ 0xD8 ∷ 0xFF ∷ 0xF7 ∷ 0x00 ∷ 0x0B ∷ 0x08 ∷ 0x00 ∷ 0x02 ∷ 0x00 ∷ 0x01 ∷ 0x01 ∷ 0x01 ∷ 0x11 ∷ 0x00
    ∷ 0xFF ∷ 0xDA ∷ 0x00 ∷ 0x08 ∷ 0x01 ∷ 0x01 ∷ 0x00 ∷ 0x00 ∷ 0x00 ∷ 0x00 ∷ 0x50 ∷ 0xFF ∷ []

abbrev framed : HeaderState
framed = record no_headers { frame = Some shape }

abbrev final : HeaderState
final = record framed { scans = 1 }

abbrev units : List CopyUnit
units = segment 0 0xF7 (0x08 ∷ 0x00 ∷ 0x02 ∷ 0x00 ∷ 0x01 ∷ 0x01 ∷ 0x01 ∷ 0x11 ∷ 0x00 ∷ [])
    ∷ scan 0 0xDA (0x01 ∷ 0x01 ∷ 0x00 ∷ 0x00 ∷ 0x00 ∷ 0x00 ∷ []) plan [] (0x50 ∷ []) (by_input 1) ∷ []

-- the input's end closes the piece, and the 0xFF belongs to none
abbrev pub course : Course
course = record { begin = 3; units = units; headers = final; end = Input 28 }

-- the course of the cut copy
pub is_course : IsCourse copy course
unfolding headers_after index_of has_segment
is_course =
    with_soi 1 _ units final (Input 28) (
      framed,
      _,
      refl,
      ((refl, lit< tt), refl),
      (final, [], refl, ((refl, lit< tt), refl, tt, (λ (h : 0x50 ≡ 0xFF). omega (arith, h)), refl), (refl, with_the_input final 28)),
    )

abbrev pub piece : FoundPiece
piece = record { scan = 0; plan = plan; number = Interval 0; offset = 26; bytes = 0x50 ∷ [] }

its_cut_piece : cut_pieces course ≡ piece ∷ []
its_cut_piece = refl

-- the lines of its head, of which there is one, count as readings from row 0 on
its_reading : head_readings (cut_pieces course) ((1 ∷ []) ∷ []) ≡ reading_of 0 0 (1 ∷ []) ∷ []
its_reading = refl
