-- The scans of a course are in their ranges.
use Rattle.std.proofs.Common.{ℕ, ◌+◌, List, [], ◌∷◌, ◌++◌, length, Some, None, subst}
use Rattle.std.specs.List.{AllByRecursion}
use Rattle.jls_marker.specs.HeaderState.{HeaderState, IsHeaderState, no_headers_under}
use Rattle.jls_marker.specs.Scan.{Scan, IsScan, intervals}
use Rattle.jls_marker.specs.SegmentLaws.{AreBytes}
use Rattle.jls_marker.proofs.HeaderSteps.{scans_are_in_range}
use Rattle.jls_marker.proofs.HeadersKept.{headers_kept, new_headers_kept}
use Rattle.jls_copy.specs.ScanData.{fill_bytes, ClosedPiece, closed_bytes}
use Rattle.jls_copy.specs.Numbers.{PieceNumber, number_after, given_last}
use Rattle.jls_copy.specs.Pieces.{FoundPiece, pieces_from, pieces_in, pieces, piece_begun}
use Rattle.jls_copy.specs.Course.{CopyUnit, segment, scan, segment_unit_bytes, scan_data_bytes, AreUnits, Course, IsCourseUnder, with_soi}
use Rattle.jls_copy.specs.Course.{with_another_marker, with_no_marker, with_fill_alone}
use Rattle.jls_copy.specs.declared.end.End.{End}
use Rattle.jls_marker.specs.declared.profile.Profile.{Profile}

-- the piece is of a scan in its ranges
abbrev pub HasScan : FoundPiece → Type 0
HasScan p = IsScan p.plan

-- bytes in two parts
pub byte_parts : (xs ys : List ℕ) → AreBytes (xs ++ ys) → AreBytes xs × AreBytes ys
byte_parts [] ys h = (tt, h)
byte_parts (x ∷ xs) ys h = let r = byte_parts xs ys h.1 in ((h.0, r.0), r.1)

both_have : (ps qs : List FoundPiece) → AllByRecursion HasScan ps → AllByRecursion HasScan qs → AllByRecursion HasScan (ps ++ qs)
both_have [] qs h k = k
both_have (p ∷ ps) qs h k = (h.0, both_have ps qs h.1 k)

-- the pieces of a scan in its ranges are of such a scan
pieces_have : (index : ℕ) (s : Scan) (last : ℕ) (number : PieceNumber) (at : ℕ) (closed : List ClosedPiece) (bytes : List ℕ) → IsScan s
    → AllByRecursion HasScan (pieces_from (piece_begun index s number at) last closed bytes)
pieces_have index s last number at [] bytes ok = (ok, tt)
pieces_have index s last number at (c ∷ closed) bytes ok =
    let next = number_after (intervals s) last c.mark in
    (ok, pieces_have index s (given_last last next) next (at + length (closed_bytes c)) closed bytes ok)

pub payload_bytes : (fill code : ℕ) (payload : List ℕ) → AreBytes (segment_unit_bytes fill code payload) → AreBytes payload
payload_bytes fill code payload h = (byte_parts (fill_bytes fill) _ h).1.1.1.1.1

-- each piece of some units is of a scan in its ranges, if the headers before them are in theirs
units_have : (h : HeaderState) (at : ℕ) (bytes : List ℕ) (us : List CopyUnit) (final : HeaderState) (e : End) (index begin : ℕ)
    → IsHeaderState h → AreBytes bytes
    → AreUnits h at bytes us final e → AllByRecursion HasScan (pieces_in index begin us)
units_have h at bytes [] final e index begin is low u = tt
units_have h at bytes (segment fill code payload ∷ us) final e index begin is low (after, rest, whole, unit, more) =
    let parts = byte_parts (segment_unit_bytes fill code payload) rest (subst AreBytes whole low) in
    units_have after (at + length (segment_unit_bytes fill code payload)) rest us final e (index + 0)
    (begin + length (segment_unit_bytes fill code payload))
    (headers_kept h after code payload None is (payload_bytes fill code payload parts.0) unit.1) parts.1 more
units_have h at bytes (scan fill code payload plan closed last closing ∷ us) final e index begin is low (after, rest, whole, unit, more) =
    let parts = byte_parts (segment_unit_bytes fill code payload ++ scan_data_bytes closed last closing) rest (subst AreBytes whole low) in
    let in_segment = payload_bytes fill code payload
    (byte_parts (segment_unit_bytes fill code payload) (scan_data_bytes closed last closing) parts.0).0 in
    both_have (pieces_from (piece_begun index plan _ _) 0 closed last) _
    (pieces_have index plan 0 _ _ closed last (scans_are_in_range h after code payload plan is in_segment unit.1))
    (units_have after (at + length (segment_unit_bytes fill code payload ++ scan_data_bytes closed last closing)) rest us final e
    (index + 1) (begin + length (segment_unit_bytes fill code payload ++ scan_data_bytes closed last closing))
    (headers_kept h after code payload (Some plan) is in_segment unit.1) parts.1 more)

-- each piece of a course is
pub course_has : {profile : Profile} (bytes : List ℕ) (c : Course) → AreBytes bytes → IsCourseUnder profile bytes c
    → AllByRecursion HasScan (pieces c)
course_has {profile} _ _ low (with_soi n bytes units final e h) =
    units_have (no_headers_under profile) (n + 2) bytes units final e 0 (n + 2) (new_headers_kept profile)
    (byte_parts (fill_bytes n) (255 ∷ 216 ∷ bytes) low).1.1.1 h
course_has _ _ low (with_another_marker n code bytes p q) = tt
course_has _ _ low (with_no_marker b bytes p) = tt
course_has _ _ low (with_fill_alone n) = tt
