-- Worked values of the definitions that say what a copy is and where its lines stand. They were counted by hand from T.81 B.1.1 and B.2.1,
-- and from T.87 C.1, C.2.5 and B.2; the two segments are those of a file that CharLS 2.4.1 wrote.
use Rattle.std.proofs.Common.{◌≡◌, true, false, [], ◌∷◌, map, refl, lit<, lit≤, arith}
use Rattle.std.specs.List.{filter, range_with_len}
use Rattle.jls_values.specs.Params.{CodingParameters}
use Rattle.jls_partial.specs.Reading.{reading_of}
use Rattle.jls_marker.specs.Scan.{Scan}
use Rattle.jls_interval.specs.Lines.{interval_shape}
use Rattle.jls_piece.specs.Lines.{PieceShape, line_piece}
use Rattle.jls_copy.specs.ScanData.{closes_piece, IsPiece, closed_bytes, IsClosedPiece}
use Rattle.jls_copy.specs.Numbers.{Interval, BeyondLast, next_number, numbers_after, RiseByEightAtMost, mark_before}
use Rattle.jls_copy.specs.IntervalOf.{interval_of}
use Rattle.jls_copy.specs.Course.{by_input, by_marker, segment, scan, unit_bytes, IsClosing}
use Rattle.jls_copy.specs.Pieces.{placed}

-- Pieces ---------------------------------------------------------------------------------------------------------

-- the codes after a byte 0xFF that end a piece: RST0 to RST7, EOI, SOS, DRI, APP0 to APP15, LSE and COM
codes_that_close : filter closes_piece (range_with_len 0 256)
    ≡ 0xD0 ∷ 0xD1 ∷ 0xD2 ∷ 0xD3 ∷ 0xD4 ∷ 0xD5 ∷ 0xD6 ∷ 0xD7 ∷ 0xD9 ∷ 0xDA ∷ 0xDD ∷ 0xE0 ∷ 0xE1 ∷ 0xE2 ∷ 0xE3 ∷ 0xE4 ∷ 0xE5 ∷ 0xE6 ∷ 0xE7
    ∷ 0xE8 ∷ 0xE9 ∷ 0xEA ∷ 0xEB ∷ 0xEC ∷ 0xED ∷ 0xEE ∷ 0xEF ∷ 0xF8 ∷ 0xFE ∷ []
codes_that_close = refl

-- 0xFF stands in data before a byte below 0x80, and in damaged data before codes such as that of a frame
ff_within : IsPiece (0xFF ∷ 0x7F ∷ 0xFF ∷ 0xF7 ∷ 0x00 ∷ [])
ff_within = ((λ h. refl), ((λ h. refl), ((λ h. refl), ((λ h. refl), (λ (h : 0x00 ≡ 0xFF). omega (arith, h))))))

-- neither the last byte of a piece nor a mark in it
ff_last_is_no_piece : IsPiece (0x80 ∷ 0xFF ∷ []) → ⊥
ff_last_is_no_piece p = p.1 refl

mark_within_is_no_piece : IsPiece (0x80 ∷ 0xFF ∷ 0xD3 ∷ 0x40 ∷ []) → ⊥
mark_within_is_no_piece p = (let e : true ≡ false = p.1.0 refl in cc)

-- a piece, two fill bytes and RST5
closed_by_rst5 : closed_bytes (record { piece = 0x80 ∷ 0x01 ∷ []; fill = 2; mark = 5 }) ≡ 0x80 ∷ 0x01 ∷ 0xFF ∷ 0xFF ∷ 0xFF ∷ 0xD5 ∷ []
closed_by_rst5 = refl

-- there is no RST8
no_mark_above_seven : IsClosedPiece (record { piece = []; fill = 0; mark = 8 }) → ⊥
no_mark_above_seven c = (let n = c.1 in omega (arith, n))

-- Numbers --------------------------------------------------------------------------------------------------------

-- the number after RST0 to RST7, where 0, 5, 8 and 15 were given last: the least above it that follows such a mark
after_0 : map (next_number 0) (range_with_len 0 8) ≡ 1 ∷ 2 ∷ 3 ∷ 4 ∷ 5 ∷ 6 ∷ 7 ∷ 8 ∷ []
after_0 = refl

after_5 : map (next_number 5) (range_with_len 0 8) ≡ 9 ∷ 10 ∷ 11 ∷ 12 ∷ 13 ∷ 6 ∷ 7 ∷ 8 ∷ []
after_5 = refl

after_8 : map (next_number 8) (range_with_len 0 8) ≡ 9 ∷ 10 ∷ 11 ∷ 12 ∷ 13 ∷ 14 ∷ 15 ∷ 16 ∷ []
after_8 = refl

after_15 : map (next_number 15) (range_with_len 0 8) ≡ 17 ∷ 18 ∷ 19 ∷ 20 ∷ 21 ∷ 22 ∷ 23 ∷ 16 ∷ []
after_15 = refl

-- the marks before the intervals 1 to 9
marks_before : map mark_before (range_with_len 1 9) ≡ 0 ∷ 1 ∷ 2 ∷ 3 ∷ 4 ∷ 5 ∷ 6 ∷ 7 ∷ 0 ∷ []
marks_before = refl

-- of three intervals the last has the number 2; a mark beyond it gives no number, and the next counts from the number given before
numbers_of_three : numbers_after 3 0 (0 ∷ 1 ∷ 2 ∷ 1 ∷ []) ≡ Interval 1 ∷ Interval 2 ∷ BeyondLast 3 ∷ BeyondLast 10 ∷ []
numbers_of_three = refl

beyond_is_not_given : numbers_after 3 0 (5 ∷ 0 ∷ []) ≡ BeyondLast 6 ∷ Interval 1 ∷ []
beyond_is_not_given = refl

-- seven markers in a row can be lost, and the mark before interval 8 still gives 8
seven_lost_rise : RiseByEightAtMost 10 0 (8 ∷ 9 ∷ [])
seven_lost_rise = (lit< tt, lit≤ tt, lit< tt, (lit< tt, lit≤ tt, lit< tt, tt))

-- eight can't: the mark before interval 9 gives 1, and the numbers 0 and 9 are not those of a damaged copy
eight_lost_do_not_rise : RiseByEightAtMost 10 0 (9 ∷ []) → ⊥
eight_lost_do_not_rise rise = (let n = rise.1 in omega (arith, n))

eight_lost_give_one : numbers_after 10 0 (mark_before 9 ∷ []) ≡ Interval 1 ∷ []
eight_lost_give_one = refl

-- nor is the number of intervals one of theirs, nor does one come twice
beyond_does_not_rise : RiseByEightAtMost 10 9 (10 ∷ []) → ⊥
beyond_does_not_rise rise = (let n = rise.2 in omega (arith, n))

same_does_not_rise : RiseByEightAtMost 10 4 (4 ∷ []) → ⊥
same_does_not_rise rise = (let n = rise.0 in omega (arith, n))

-- Intervals and lines --------------------------------------------------------------------------------------------

abbrev bits_8 : CodingParameters
bits_8 = record { precision = 8; maxval = 255; t1 = 3; t2 = 7; t3 = 21; reset = 64 }

-- two components by line, in intervals of two rows of which the last has one
abbrev plan : Scan
plan = record { components = 1 ∷ 0 ∷ []; params = bits_8; width = 3; height = 5; restart_interval = 2; by_sample = false }

first_interval : interval_of plan 0 ≡ line_piece (interval_shape bits_8 3 2 4)
first_interval = refl

last_interval : interval_of plan 2 ≡ line_piece (interval_shape bits_8 3 2 2)
last_interval = refl

-- by sample an interval has as many lines
by_sample_interval : interval_of (record plan { by_sample = true }) 2
    ≡ record (line_piece (interval_shape bits_8 3 2 2)) { by_sample = true }
by_sample_interval = refl

-- in each row first the component that SOS names first
placed_by_turns : placed (1 ∷ 0 ∷ []) 2 0 ((7 ∷ []) ∷ (8 ∷ []) ∷ (9 ∷ []) ∷ [])
    ≡ reading_of 1 2 (7 ∷ []) ∷ reading_of 0 2 (8 ∷ []) ∷ reading_of 1 3 (9 ∷ []) ∷ []
placed_by_turns = refl

-- from the middle of a row on
placed_from_within : placed (0 ∷ 1 ∷ []) 4 1 ((7 ∷ []) ∷ (8 ∷ []) ∷ []) ≡ reading_of 1 4 (7 ∷ []) ∷ reading_of 0 5 (8 ∷ []) ∷ []
placed_from_within = refl

-- Units ----------------------------------------------------------------------------------------------------------

-- LSE of ID 1 in 12 bits, after no fill byte: the length counts its own two bytes
lse_unit : unit_bytes (segment 0 0xF8 (0x01 ∷ 0x0F ∷ 0xFF ∷ 0x00 ∷ 0x0A ∷ 0x00 ∷ 0x28 ∷ 0x00 ∷ 0x5A ∷ 0x00 ∷ 0x1F ∷ []))
    ≡ 0xFF ∷ 0xF8 ∷ 0x00 ∷ 0x0D ∷ 0x01 ∷ 0x0F ∷ 0xFF ∷ 0x00 ∷ 0x0A ∷ 0x00 ∷ 0x28 ∷ 0x00 ∷ 0x5A ∷ 0x00 ∷ 0x1F ∷ []
lse_unit = refl

-- DRI of three bytes after two fill bytes
dri_unit : unit_bytes (segment 2 0xDD (0 ∷ 0 ∷ 2 ∷ [])) ≡ 0xFF ∷ 0xFF ∷ 0xFF ∷ 0xDD ∷ 0x00 ∷ 0x05 ∷ 0 ∷ 0 ∷ 2 ∷ []
dri_unit = refl

-- SOS with its scan data: a piece, RST0 and a piece, and at the input's end two bytes 0xFF, which are the unit's and no piece's
scan_unit : unit_bytes (scan 0 0xDA (1 ∷ 1 ∷ 0 ∷ 0 ∷ 0 ∷ 0 ∷ []) plan (record { piece = 0x80 ∷ []; fill = 0; mark = 0 } ∷ []) (0x40 ∷ [])
    (by_input 2))
    ≡ 0xFF ∷ 0xDA ∷ 0x00 ∷ 0x08 ∷ 1 ∷ 1 ∷ 0 ∷ 0 ∷ 0 ∷ 0 ∷ 0x80 ∷ 0xFF ∷ 0xD0 ∷ 0x40 ∷ 0xFF ∷ 0xFF ∷ []
scan_unit = refl

-- a marker that ends scan data isn't among its bytes
scan_unit_before_a_marker : unit_bytes (scan 0 0xDA (1 ∷ 1 ∷ 0 ∷ 0 ∷ 0 ∷ 0 ∷ []) plan [] (0x40 ∷ []) by_marker)
    ≡ 0xFF ∷ 0xDA ∷ 0x00 ∷ 0x08 ∷ 1 ∷ 1 ∷ 0 ∷ 0 ∷ 0 ∷ 0 ∷ 0x40 ∷ []
scan_unit_before_a_marker = refl

-- EOI after a fill byte closes the last piece, and RST0 doesn't
eoi_closes : IsClosing by_marker (0xFF ∷ 0xFF ∷ 0xD9 ∷ [])
eoi_closes = record { fill = 1; code = 0xD9; following = []; bytes_are = refl; ends = refl }

nothing_follows_the_input : IsClosing (by_input 1) (0xFF ∷ []) → ⊥
nothing_follows_the_input e = cc
