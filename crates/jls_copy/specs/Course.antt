-- The course of a copy: SOI, then units one after the other, and the copy's end (T.81 B.1.1.2 to B.1.1.4 and B.2.1). That a fault of
-- the headers ends a copy, and which markers end scan data, is this project's choice.
use Rattle.std.specs.Prelude.{◌≡◌, ℕ, suc, ◌+◌, ◌*◌, ◌^◌, ◌/◌, ◌%◌, ◌<◌, ◌≢◌, true, false, is_some, List, [], ◌∷◌, ◌++◌, length, Some, None}
use Rattle.std.specs.Prelude.{Ok, Err}
use Rattle.std.specs.List.{flat_map, AllByRecursion}
use Rattle.jls_marker.specs.MarkerCodes.{has_segment}
use Rattle.jls_marker.specs.Headers.{headers_after}
use Rattle.jls_marker.specs.HeaderState.{HeaderState, no_headers_under}
use Rattle.jls_marker.specs.Scan.{Scan}
use Rattle.jls_marker.specs.declared.fault.MarkerFault.{MarkerFault}
use Rattle.jls_marker.specs.declared.fault.MarkerFault.TheVariants as fault
use Rattle.jls_marker.specs.declared.profile.Profile.{Profile}
use Rattle.jls_marker.specs.declared.profile.Profile.TheVariants.{Strict}
use Rattle.jls_copy.specs.ScanData.{fill_bytes, ClosedPiece, closed_bytes, IsClosedPiece, IsPiece, ends_scan_data}
use Rattle.jls_copy.specs.declared.end.End.{End}
use Rattle.jls_copy.specs.declared.end.End.TheVariants.{Eoi, Input, Header}

-- what closes the last piece of scan data: the input's end, after so many bytes 0xFF, which are dropped; or a marker (T.81 B.1.1.2 to
-- B.1.1.4, B.2.1)
pub data LastClosed : Type 0 where
  by_input : ℕ → LastClosed
  by_marker : LastClosed

-- a unit of a copy: a marker segment after so many fill bytes, of this code and payload. If it begins a scan, the unit has the scan data:
-- the pieces that marks close, the last piece, and what closes it (T.81 B.1.1.2 to B.1.1.4, B.2.1)
pub data CopyUnit : Type 0 where
  segment : ℕ → ℕ → List ℕ → CopyUnit
  scan : ℕ → ℕ → List ℕ → Scan → List ClosedPiece → List ℕ → LastClosed → CopyUnit

-- the bytes of a marker segment. Its length counts itself and the payload (T.81 B.1.1.2 to B.1.1.4, B.2.1)
abbrev pub segment_unit_bytes : ℕ → ℕ → List ℕ → List ℕ
segment_unit_bytes fill code payload =
    let size : ℕ = length payload + 2 in fill_bytes fill ++ (0xFF ∷ code ∷ size / 256 ∷ size % 256 ∷ payload)

-- the bytes 0xFF at the input's end, which belong to no piece (T.81 B.1.1.2 to B.1.1.4, B.2.1)
abbrev pub dropped_bytes : LastClosed → List ℕ
dropped_bytes (by_input count) = fill_bytes count
dropped_bytes by_marker = []

-- the bytes of scan data that is cut so; a marker that closes its last piece is not among them (T.81 B.1.1.2 to B.1.1.4, B.2.1)
abbrev pub scan_data_bytes : List ClosedPiece → List ℕ → LastClosed → List ℕ
scan_data_bytes closed last closing = flat_map closed_bytes closed ++ (last ++ dropped_bytes closing)

-- the bytes that a unit is in the copy (T.81 B.1.1.2 to B.1.1.4, B.2.1)
abbrev pub unit_bytes : CopyUnit → List ℕ
unit_bytes (segment fill code payload) = segment_unit_bytes fill code payload
unit_bytes (scan fill code payload plan closed last closing) = segment_unit_bytes fill code payload ++ scan_data_bytes closed last closing

-- a marker that ends scan data begins these bytes, after any number of fill bytes (T.81 B.1.1.2 to B.1.1.4, B.2.1)
pub record BeginsWithEnd (bytes : List ℕ) : Type 0 where
  pub fill : ℕ
  pub code : ℕ
  pub following : List ℕ
  pub bytes_are : bytes ≡ fill_bytes fill ++ (0xFF ∷ code ∷ following)
  pub ends : ends_scan_data code ≡ true

-- what closes the last piece of scan data, if these bytes follow it (T.81 B.1.1.2 to B.1.1.4, B.2.1)
abbrev pub IsClosing : LastClosed → List ℕ → Type 0
IsClosing (by_input count) rest = rest ≡ []
IsClosing by_marker rest = BeginsWithEnd rest

-- the length of a segment with this payload has two bytes, and the code is that of a segment (T.81 B.1.1.2 to B.1.1.4, B.2.1)
abbrev pub IsWholeSegment : ℕ → List ℕ → Type 0
IsWholeSegment code payload = (has_segment code ≡ true) × (length payload + 2 < 2 ^ 16)

-- under the headers `before` the unit is one without fault, which leaves the headers `after`, and these bytes can follow it (T.81 B.1.1.2
-- to B.1.1.4, B.2.1)
abbrev pub IsUnit : HeaderState → CopyUnit → HeaderState → List ℕ → Type 0
IsUnit before (segment fill code payload) after rest = IsWholeSegment code payload × (headers_after before code payload ≡ Ok (after, None))
IsUnit before (scan fill code payload plan closed last closing) after rest =
    IsWholeSegment code payload × (headers_after before code payload ≡ Ok (after, Some plan))
    × AllByRecursion IsClosedPiece closed × IsPiece last × IsClosing closing rest

-- less than a unit, if the input ends there. That is bytes 0xFF alone, a marker that a segment follows, one byte of the length, or less
-- than the payload (T.81 B.1.1.2 to B.1.1.4, B.2.1)
pub data IsPartOfUnit : List ℕ → Type 0 where
  fill_alone : (n : ℕ) → IsPartOfUnit (fill_bytes (suc n))
  marker_alone : (n code : ℕ) → has_segment code ≡ true → IsPartOfUnit (fill_bytes n ++ (0xFF ∷ code ∷ []))
  half_a_length : (n code high : ℕ) → has_segment code ≡ true → IsPartOfUnit (fill_bytes n ++ (0xFF ∷ code ∷ high ∷ []))
  short_payload : (n code size : ℕ) (bytes : List ℕ) → has_segment code ≡ true → length bytes + 2 < size → size < 2 ^ 16
      → IsPartOfUnit (fill_bytes n ++ (0xFF ∷ code ∷ size / 256 ∷ size % 256 ∷ bytes))

-- the bytes where a marker must be, at this offset and under these headers, end the copy so, whatever follows. A marker's offset is that of
-- the byte 0xFF before its code (T.81 B.1.1.2 to B.1.1.4, B.2.1)
pub data EndsHere : HeaderState → ℕ → List ℕ → End → Type 0 where
  at_eoi : (h : HeaderState) (at n : ℕ) (more : List ℕ) → is_some h.frame ≡ true
      → EndsHere h at (fill_bytes n ++ (0xFF ∷ 0xD9 ∷ more)) (Eoi (at + n))
  at_eoi_before_a_frame : (h : HeaderState) (at n : ℕ) (more : List ℕ) → is_some h.frame ≡ false
      → EndsHere h at (fill_bytes n ++ (0xFF ∷ 0xD9 ∷ more)) (Header fault.NoFrame (at + n))
  at_no_marker : (h : HeaderState) (at b : ℕ) (more : List ℕ) → b ≢ 0xFF → EndsHere h at (b ∷ more) (Header fault.NoMarker at)
  at_unknown_code : (h : HeaderState) (at n code : ℕ) (more : List ℕ) → code ≢ 0xFF → code ≢ 0xD9 → has_segment code ≡ false
      → EndsHere h at (fill_bytes n ++ (0xFF ∷ code ∷ more)) (Header fault.UnknownMarker (at + n))
  at_short_length : (h : HeaderState) (at n code high low : ℕ) (more : List ℕ) → has_segment code ≡ true → 256 * high + low < 2
      → EndsHere h at (fill_bytes n ++ (0xFF ∷ code ∷ high ∷ low ∷ more)) (Header fault.Length (at + n))
  at_refused_segment : (h : HeaderState) (at n code : ℕ) (payload more : List ℕ) (f : MarkerFault) → IsWholeSegment code payload
      → headers_after h code payload ≡ Err f → EndsHere h at (segment_unit_bytes n code payload ++ more) (Header f (at + n))

-- the bytes after the last unit, at this offset, end the copy so. More bytes can undo an end of the input (T.81 B.1.1.2 to B.1.1.4, B.2.1)
pub data Ends : HeaderState → ℕ → List ℕ → End → Type 0 where
  for_good : (h : HeaderState) (at : ℕ) (bytes : List ℕ) (e : End) → EndsHere h at bytes e → Ends h at bytes e
  with_the_input : (h : HeaderState) (at : ℕ) → Ends h at [] (Input at)
  in_a_unit : (h : HeaderState) (at : ℕ) (bytes : List ℕ) → IsPartOfUnit bytes → Ends h at bytes (Header fault.Ended (at + length bytes))

-- from a place where a marker may begin, at this offset and under these headers, the bytes are these units and what ends the copy. The
-- units leave the headers `final` (T.81 B.1.1.2 to B.1.1.4, B.2.1)
abbrev pub AreUnits : HeaderState → ℕ → List ℕ → List CopyUnit → HeaderState → End → Type 0
AreUnits h at bytes [] final e = (final ≡ h) × Ends h at bytes e
AreUnits h at bytes (unit ∷ units) final e =
    (after : HeaderState) × (rest : List ℕ) × (bytes ≡ unit_bytes unit ++ rest) × IsUnit h unit after rest
    × AreUnits after (at + length (unit_bytes unit)) rest units final e

-- the course of a whole copy: where its first unit begins, its units, the headers that they leave, and its end (T.81 B.1.1.2 to B.1.1.4,
-- B.2.1)
pub record Course : Type 0 where
  pub begin : ℕ
  pub units : List CopyUnit
  pub headers : HeaderState
  pub end : End

-- the course of a copy that has no unit, under a profile (T.81 B.1.1.2 to B.1.1.4, B.2.1)
abbrev pub without_units_under : Profile → ℕ → End → Course
without_units_under profile begin e = record { begin = begin; units = []; headers = no_headers_under profile; end = e }

-- the same under the strict profile (T.81 B.1.1.2 to B.1.1.4, B.2.1)
abbrev pub without_units : ℕ → End → Course
without_units begin e = without_units_under Strict begin e

-- these bytes, as a whole copy, have this course under a profile. The first marker must be SOI; before it there can be fill bytes (T.81
-- B.1.1.2 to B.1.1.4, B.2.1)
pub data IsCourseUnder (profile : Profile) : List ℕ → Course → Type 0 where
  with_soi : (n : ℕ) (bytes : List ℕ) (units : List CopyUnit) (final : HeaderState) (e : End)
      → AreUnits (no_headers_under profile) (n + 2) bytes units final e
      → IsCourseUnder profile (fill_bytes n ++ (0xFF ∷ 0xD8 ∷ bytes)) (record { begin = n + 2; units = units; headers = final; end = e })
  with_another_marker : (n code : ℕ) (bytes : List ℕ) → code ≢ 0xFF → code ≢ 0xD8
      → IsCourseUnder profile (fill_bytes n ++ (0xFF ∷ code ∷ bytes)) (without_units_under profile n (Header fault.NoSoi n))
  with_no_marker : (b : ℕ) (bytes : List ℕ) → b ≢ 0xFF
      → IsCourseUnder profile (b ∷ bytes) (without_units_under profile 0 (Header fault.NoSoi 0))
  with_fill_alone : (n : ℕ) → IsCourseUnder profile (fill_bytes n) (without_units_under profile n (Header fault.Ended n))

-- the same under the strict profile, whose scans are by line (T.81 B.1.1.2 to B.1.1.4, B.2.1)
abbrev pub IsCourse : List ℕ → Course → Type 0
IsCourse bytes c = IsCourseUnder Strict bytes c
