-- A file of two scans, each with one component, in 12 bits. CharLS 2.4.1 wrote it, for a picture of 2 columns and 3 rows with T1 to T3 and
-- RESET other than the defaults. Three things were changed by hand. Before the second SOS stands a DRI of three bytes, after a fill byte.
-- The
-- second scan has what CharLS writes for its rows 0 and 1 alone, and for its row 2 alone. Between them stands RST0, after a fill byte.
use Rattle.std.proofs.Common.{◌≡◌, ℕ, List, [], ◌∷◌, Some, refl, lit<, arith, false}
use Rattle.jls_values.specs.Params.{CodingParameters}
use Rattle.jls_values.specs.Shape.{PictureShape}
use Rattle.jls_values.specs.PresetParameters.{PresetParameters}
use Rattle.jls_partial.specs.Reading.{reading_of}
use Rattle.jls_marker.specs.ComponentIndex.{index_of}
use Rattle.jls_marker.specs.MarkerCodes.{has_segment}
use Rattle.jls_marker.specs.HeaderState.{HeaderState, no_headers}
use Rattle.jls_marker.specs.Headers.{headers_after}
use Rattle.jls_marker.specs.Scan.{Scan}
use Rattle.jls_copy.specs.ScanData.{ClosedPiece}
use Rattle.jls_copy.specs.Numbers.{Interval}
use Rattle.jls_copy.specs.Course.{by_marker, CopyUnit, segment, scan, Course, IsCourse, with_soi, at_eoi, for_good}
use Rattle.jls_copy.specs.Pieces.{FoundPiece, Lines, readings_of, pieces}
use Rattle.jls_copy.specs.declared.end.End.TheVariants.{Eoi}

abbrev pub shape : PictureShape
shape = record { precision = 12; width = 2; height = 3; ids = 1 ∷ 2 ∷ [] }

abbrev pub bits_12 : CodingParameters
bits_12 = record { precision = 12; maxval = 4095; t1 = 10; t2 = 40; t3 = 90; reset = 31 }

-- the first component has one interval, and the second has two: rows 0 and 1, and row 2
abbrev pub first_scan : Scan
first_scan = record { components = 0 ∷ []; params = bits_12; width = 2; height = 3; restart_interval = 0; by_sample = false }

abbrev pub second_scan : Scan
second_scan = record { components = 1 ∷ []; params = bits_12; width = 2; height = 3; restart_interval = 2; by_sample = false }

-- SOI and SOF55; LSE; SOS and the first scan; DRI; SOS and the second scan, with RST0; EOI
abbrev pub file : List ℕ
file =
    0xFF ∷ 0xD8 ∷ 0xFF ∷ 0xF7 ∷ 0x00 ∷ 0x0E ∷ 0x0C ∷ 0x00 ∷ 0x03 ∷ 0x00 ∷ 0x02 ∷ 0x02 ∷ 0x01 ∷ 0x11 ∷ 0x00 ∷ 0x02 ∷ 0x11 ∷ 0x00
    ∷ 0xFF ∷ 0xF8 ∷ 0x00 ∷ 0x0D ∷ 0x01 ∷ 0x0F ∷ 0xFF ∷ 0x00 ∷ 0x0A ∷ 0x00 ∷ 0x28 ∷ 0x00 ∷ 0x5A ∷ 0x00 ∷ 0x1F
    ∷ 0xFF ∷ 0xDA ∷ 0x00 ∷ 0x08 ∷ 0x01 ∷ 0x01 ∷ 0x00 ∷ 0x00 ∷ 0x00 ∷ 0x00 ∷ 0x49 ∷ 0x87 ∷ 0x02 ∷ 0x0C ∷ 0x78 ∷ 0x00
    ∷ 0xFF ∷ 0xFF ∷ 0xDD ∷ 0x00 ∷ 0x05 ∷ 0x00 ∷ 0x00 ∷ 0x02
    ∷ 0xFF ∷ 0xDA ∷ 0x00 ∷ 0x08 ∷ 0x01 ∷ 0x02 ∷ 0x00 ∷ 0x00 ∷ 0x00 ∷ 0x00 ∷ 0x08 ∷ 0xF0 ∷ 0x23 ∷ 0x46 ∷ 0xFF ∷ 0xFF ∷ 0xD0 ∷ 0xA0 ∷ 0x00
    ∷ 0xFF ∷ 0xD9 ∷ []

abbrev framed : HeaderState
framed = record no_headers { frame = Some shape }

abbrev values : PresetParameters
values = record { maxval = 4095; t1 = 10; t2 = 40; t3 = 90; reset = 31 }

abbrev preset : HeaderState
preset = record framed { preset = values }

abbrev after_one : HeaderState
after_one = record preset { scans = 1 }

abbrev restarting : HeaderState
restarting = record after_one { restart_interval = 2 }

abbrev final : HeaderState
final = record restarting { scans = 2 }

abbrev closed : List ClosedPiece
closed = record { piece = 0x08 ∷ 0xF0 ∷ 0x23 ∷ 0x46 ∷ []; fill = 1; mark = 0 } ∷ []

abbrev units : List CopyUnit
units =
    segment 0 0xF7 (0x0C ∷ 0x00 ∷ 0x03 ∷ 0x00 ∷ 0x02 ∷ 0x02 ∷ 0x01 ∷ 0x11 ∷ 0x00 ∷ 0x02 ∷ 0x11 ∷ 0x00 ∷ [])
    ∷ segment 0 0xF8 (0x01 ∷ 0x0F ∷ 0xFF ∷ 0x00 ∷ 0x0A ∷ 0x00 ∷ 0x28 ∷ 0x00 ∷ 0x5A ∷ 0x00 ∷ 0x1F ∷ [])
    ∷ scan 0 0xDA (0x01 ∷ 0x01 ∷ 0x00 ∷ 0x00 ∷ 0x00 ∷ 0x00 ∷ []) first_scan [] (0x49 ∷ 0x87 ∷ 0x02 ∷ 0x0C ∷ 0x78 ∷ 0x00 ∷ []) by_marker
    ∷ segment 1 0xDD (0x00 ∷ 0x00 ∷ 0x02 ∷ [])
    ∷ scan 0 0xDA (0x01 ∷ 0x02 ∷ 0x00 ∷ 0x00 ∷ 0x00 ∷ 0x00 ∷ []) second_scan closed (0xA0 ∷ 0x00 ∷ []) by_marker
    ∷ []

abbrev pub course : Course
course = record { begin = 2; units = units; headers = final; end = Eoi 76 }

pub is_course : IsCourse file course
unfolding headers_after index_of has_segment
is_course =
    with_soi 0 _ units final (Eoi 76) (
      framed,
      _,
      refl,
      ((refl, lit< tt), refl),
      (
        preset,
        _,
        refl,
        ((refl, lit< tt), refl),
        (
          after_one,
          _,
          refl,
          (
            (refl, lit< tt),
            refl,
            tt,
            ((λ h. refl), ((λ h. refl), ((λ h. refl), ((λ h. refl), ((λ h. refl), (λ (h : 0x00 ≡ 0xFF). omega (arith, h))))))),
            record {
              fill = 1;
              code = 0xDD;
              following = 0x00 ∷ 0x05 ∷ 0x00 ∷ 0x00 ∷ 0x02 ∷ 0xFF ∷ 0xDA ∷ 0x00 ∷ 0x08 ∷ 0x01 ∷ 0x02 ∷ 0x00
                  ∷ 0x00 ∷ 0x00 ∷ 0x00 ∷ 0x08 ∷ 0xF0 ∷ 0x23 ∷ 0x46 ∷ 0xFF ∷ 0xFF ∷ 0xD0 ∷ 0xA0 ∷ 0x00 ∷ 0xFF ∷ 0xD9 ∷ [];
              bytes_are = refl;
              ends = refl;
            },
          ),
          (
            restarting,
            _,
            refl,
            ((refl, lit< tt), refl),
            (
              final,
              0xFF ∷ 0xD9 ∷ [],
              refl,
              (
                (refl, lit< tt),
                refl,
                ((((λ h. refl), ((λ h. refl), ((λ h. refl), (λ (h : 0x46 ≡ 0xFF). omega (arith, h))))), lit< tt), tt),
                ((λ h. refl), (λ (h : 0x00 ≡ 0xFF). omega (arith, h))),
                record { fill = 0; code = 0xD9; following = []; bytes_are = refl; ends = refl },
              ),
              (refl, for_good final 76 (0xFF ∷ 0xD9 ∷ []) (Eoi 76) (at_eoi final 76 0 [] refl)),
            ),
          ),
        ),
      ),
    )

-- its pieces, each under its scan, its number and its offset
abbrev pub piece_0 : FoundPiece
piece_0 = record { scan = 0; plan = first_scan; number = Interval 0; offset = 43; bytes = 0x49 ∷ 0x87 ∷ 0x02 ∷ 0x0C ∷ 0x78 ∷ 0x00 ∷ [] }

abbrev pub piece_1 : FoundPiece
piece_1 = record { scan = 1; plan = second_scan; number = Interval 0; offset = 67; bytes = 0x08 ∷ 0xF0 ∷ 0x23 ∷ 0x46 ∷ [] }

abbrev pub piece_2 : FoundPiece
piece_2 = record { scan = 1; plan = second_scan; number = Interval 1; offset = 74; bytes = 0xA0 ∷ 0x00 ∷ [] }

its_pieces : pieces course ≡ piece_0 ∷ piece_1 ∷ piece_2 ∷ []
its_pieces = refl

-- each line is a reading of its component and row: of the shorter interval, of row 2
first_readings : readings_of piece_0 (Lines ((5 ∷ 7 ∷ []) ∷ (5 ∷ 6 ∷ []) ∷ (1 ∷ 2 ∷ []) ∷ []))
    ≡ reading_of 0 0 (5 ∷ 7 ∷ []) ∷ reading_of 0 1 (5 ∷ 6 ∷ []) ∷ reading_of 0 2 (1 ∷ 2 ∷ []) ∷ []
first_readings = refl

second_readings : readings_of piece_1 (Lines ((100 ∷ 100 ∷ []) ∷ (103 ∷ 100 ∷ []) ∷ []))
    ≡ reading_of 1 0 (100 ∷ 100 ∷ []) ∷ reading_of 1 1 (103 ∷ 100 ∷ []) ∷ []
second_readings = refl

last_readings : readings_of piece_2 (Lines ((0 ∷ 4095 ∷ []) ∷ [])) ≡ reading_of 1 2 (0 ∷ 4095 ∷ []) ∷ []
last_readings = refl
