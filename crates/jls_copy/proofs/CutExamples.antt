-- Worked cuts and numbers, computed.
use Rattle.std.proofs.Common.{◌≡◌, [], ◌∷◌, refl, lit<, arith}
use Rattle.std.specs.List.{filter, range_with_len}
use Rattle.jls_copy.specs.ScanData.{ScanCut, at_input, at_marker, IsCut, is_restart_code, ends_scan_data}
use Rattle.jls_copy.specs.Numbers.{Interval, BeyondLast, numbers_after}

-- all codes of marks, and all that end scan data: EOI, SOS, DRI, APP0 to APP15, LSE and COM (T.81, table B.1; T.87, C.1.1). SOI, the
-- frame's code and all others stay in the piece
codes_of_marks : filter is_restart_code (range_with_len 0 256) ≡ 0xD0 ∷ 0xD1 ∷ 0xD2 ∷ 0xD3 ∷ 0xD4 ∷ 0xD5 ∷ 0xD6 ∷ 0xD7 ∷ []
codes_of_marks = refl

codes_of_ends : filter ends_scan_data (range_with_len 0 256)
    ≡ 0xD9 ∷ 0xDA ∷ 0xDD ∷ 0xE0 ∷ 0xE1 ∷ 0xE2 ∷ 0xE3 ∷ 0xE4 ∷ 0xE5 ∷ 0xE6 ∷ 0xE7 ∷ 0xE8 ∷ 0xE9 ∷ 0xEA ∷ 0xEB ∷ 0xEC ∷ 0xED ∷ 0xEE ∷ 0xEF
    ∷ 0xF8 ∷ 0xFE ∷ []
codes_of_ends = refl

-- 80 FF D0 80 FF D9, of a picture of two lines with a mark between them
abbrev two_pieces : ScanCut
two_pieces = record { closed = record { piece = 0x80 ∷ []; fill = 0; mark = 0 } ∷ []; last = 0x80 ∷ []; end = at_marker 0 0xD9 [] }

two_pieces_fed : IsCut (0x80 ∷ 0xFF ∷ 0xD0 ∷ 0x80 ∷ 0xFF ∷ 0xD9 ∷ []) two_pieces
two_pieces_fed = record { whole = refl; each = ((λ h. omega arith, lit< tt), tt); last = λ h. omega arith; end = refl }

-- fill bytes before a mark, and bytes 0xFF that the input ends in, belong to no piece
abbrev filled : ScanCut
filled = record { closed = record { piece = 0x80 ∷ []; fill = 2; mark = 5 } ∷ []; last = []; end = at_input 2 }

filled_fed : IsCut (0x80 ∷ 0xFF ∷ 0xFF ∷ 0xFF ∷ 0xD5 ∷ 0xFF ∷ 0xFF ∷ []) filled
filled_fed = record { whole = refl; each = ((λ h. omega arith, lit< tt), tt); last = tt; end = tt }

-- where lines 0 to 9 have an interval each and the marks 0 to 6 are lost, the mark 7 gives 8; eight lost marks can't be distinguished
-- from none
seven_lost : numbers_after 10 0 (7 ∷ 0 ∷ []) ≡ Interval 8 ∷ Interval 9 ∷ []
seven_lost = refl

eight_lost : numbers_after 10 0 (0 ∷ []) ≡ Interval 1 ∷ []
eight_lost = refl

-- a mark that would give a number beyond the last interval gives none, and the next mark counts from the number given before
beyond_fed : numbers_after 10 9 (5 ∷ 1 ∷ []) ≡ BeyondLast 14 ∷ BeyondLast 10 ∷ []
beyond_fed = refl
