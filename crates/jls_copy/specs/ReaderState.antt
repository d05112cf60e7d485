-- Where a reader stands, byte after byte. It concerns no caller: what a whole copy is, `Course` says, and a law ties the two.
use Rattle.std.specs.Prelude.{ℕ, ◌+◌, ◌-◌, ◌*◌, nat_lt, ◌==◌, Bool, true, false, not, List, [], ◌∷◌, ◌++◌, length, is_some, Option, Some}
use Rattle.std.specs.Prelude.{None, Result, Ok, Err, if◌then◌else◌}
use Rattle.jls_marker.specs.declared.profile.Profile.{Profile}
use Rattle.jls_marker.specs.HeaderState.{HeaderState, no_headers_under}
use Rattle.jls_marker.specs.Scan.{Scan, intervals, row_count}
use Rattle.jls_marker.specs.MarkerCodes.{has_segment}
use Rattle.jls_marker.specs.Headers.{headers_after}
use Rattle.jls_copy.specs.Numbers.{PieceNumber, Interval, BeyondLast, number_after, given_last}
use Rattle.jls_copy.specs.ScanData.{is_restart_code, ends_scan_data}
use Rattle.std.specs.Option.{option_map}
use Rattle.jls_piece.specs.PieceBytes.{PieceBytes}
use Rattle.jls_copy.specs.Pieces.{FoundPiece}
use Rattle.jls_marker.specs.declared.fault.MarkerFault.{MarkerFault}
use Rattle.jls_marker.specs.declared.fault.MarkerFault.TheVariants as fault
use Rattle.jls_copy.specs.declared.end.End.{End}
use Rattle.jls_copy.specs.declared.end.End.TheVariants as end
use Rattle.jls_copy.specs.declared.piece.OpenPiece.{OpenPiece}
use Rattle.jls_copy.specs.declared.piece.OpenPiece.TheVariants as open_piece
use Rattle.jls_copy.specs.declared.scan.Held.{Held}
use Rattle.jls_copy.specs.declared.scan.Held.TheVariants.{Nothing, One, More}
use Rattle.jls_copy.specs.declared.scan.ByteClass.{ByteClass}
use Rattle.jls_copy.specs.declared.scan.ByteClass.TheVariants.{Fill, Mark, Stop, Data}
use Rattle.jls_copy.specs.declared.scan.OpenScan.{OpenScan}
use Rattle.jls_copy.specs.declared.place.CopyPosition.{CopyPosition}
use Rattle.jls_copy.specs.declared.place.CopyPosition.TheVariants.{Start, AtMarker, AtLength, InLength, InPayload, InScan, Done}

-- how many bytes were fed, where they end, what headers have set, and what came of a payload
pub record ReaderState : Type 0 where
  pub count : ℕ
  pub place : CopyPosition
  pub headers : HeaderState
  pub payload : List ℕ

-- the state before the first byte, under a profile
abbrev pub first_state : Profile → ReaderState
first_state profile = record { count = 0; place = Start false; headers = no_headers_under profile; payload = [] }

-- before SOI, after fill bytes or none
abbrev pub from_start : Bool → ℕ → ℕ → CopyPosition
from_start fill count b =
    if b == 0xFF then Start true
    else if not fill then Done (end.Header fault.NoSoi count)
    else if b == 0xD8 then AtMarker false
    else Done (end.Header fault.NoSoi (count - 1))

-- where a marker may begin, after fill bytes or none
abbrev pub from_marker : Bool → Bool → ℕ → ℕ → CopyPosition
from_marker fill has_frame count b =
    if b == 0xFF then AtMarker true
    else if not fill then Done (end.Header fault.NoMarker count)
    else if b == 0xD9 then Done (if has_frame then end.Eoi (count - 1) else end.Header fault.NoFrame (count - 1))
    else if has_segment b then AtLength (count - 1) b
    else Done (end.Header fault.UnknownMarker (count - 1))

-- a decoder of an interval that was fed nothing
abbrev pub decoding_of : Scan → ℕ → PieceBytes
decoding_of s k = record {
  parameters = s.params;
  width = s.width;
  components = length s.components;
  rows = row_count s k;
  by_sample = s.by_sample;
  bytes = Some [];
}

-- a decoder that was fed more bytes
abbrev pub with_bytes : PieceBytes → List ℕ → PieceBytes
with_bytes d more = record d { bytes = option_map (λ bytes. bytes ++ more) d.bytes }

-- the piece of this number, with no byte yet
abbrev pub piece_opened : Scan → PieceNumber → OpenPiece
piece_opened s (Interval k) = open_piece.Within k (decoding_of s k)
piece_opened s (BeyondLast k) = open_piece.Beyond k

-- a scan at its first piece
abbrev pub scan_opened : ℕ → Scan → ℕ → OpenScan
scan_opened index s offset =
    record { index = index; plan = s; last = 0; held = Nothing; offset = offset; piece = open_piece.Within 0 (decoding_of s 0) }

-- a whole segment, whose marker stands at this offset
abbrev pub place_after : ℕ → ℕ → Option Scan → CopyPosition
place_after index offset None = AtMarker false
place_after index offset (Some s) = InScan (scan_opened index s offset)

-- where a byte leads, with the headers and the payload then
pub record Step : Type 0 where
  pub place : CopyPosition
  pub headers : HeaderState
  pub payload : List ℕ

-- a step to a place, with these headers and this payload
abbrev pub step_to : HeaderState → List ℕ → CopyPosition → Step
step_to h payload place = record { place = place; headers = h; payload = payload }

-- the step after a whole segment: to its fault at the offset of its marker, or after it, with the headers that it leaves
abbrev pub segment_taken : ℕ → HeaderState → List ℕ → ℕ → Result (HeaderState × Option Scan) MarkerFault → Step
segment_taken count h payload marker (Err f) = step_to h payload (Done (end.Header f marker))
segment_taken count h payload marker (Ok r) = step_to r.0 payload (place_after h.scans (count + 1) r.1)

-- the step after a whole segment of this code and payload
abbrev pub with_segment : ℕ → HeaderState → List ℕ → ℕ → ℕ → Step
with_segment count h payload marker code = segment_taken count h payload marker (headers_after h code payload)

-- the length of a segment is known
abbrev pub length_known : ℕ → HeaderState → ℕ → ℕ → ℕ → Step
length_known count h marker code size =
    if nat_lt size 2 then step_to h [] (Done (end.Header fault.Length marker))
    else if size == 2 then with_segment count h [] marker code
    else step_to h [] (InPayload marker code size)

-- a payload has grown by a byte
abbrev pub payload_grown : ℕ → HeaderState → List ℕ → ℕ → ℕ → ℕ → Step
payload_grown count h payload marker code size =
    if length payload + 2 == size then with_segment count h payload marker code else step_to h payload (InPayload marker code size)

-- what a byte of scan data does after FF bytes or none
abbrev pub class_of : Held → ℕ → ByteClass
class_of Nothing b = if b == 0xFF then Fill else Data
class_of One b = if b == 0xFF then Fill else if is_restart_code b then Mark else if ends_scan_data b then Stop else Data
class_of More b = if b == 0xFF then Fill else if is_restart_code b then Mark else if ends_scan_data b then Stop else Data

-- one byte FF more is held back
abbrev pub one_more : Held → Held
one_more Nothing = One
one_more One = More
one_more More = More

-- two FF bytes stand for any longer run of them
abbrev pub held_bytes : Held → List ℕ
held_bytes Nothing = []
held_bytes One = 0xFF ∷ []
held_bytes More = 0xFF ∷ 0xFF ∷ []

-- an open piece with more bytes; of a piece beyond the last interval no bytes are kept
abbrev pub piece_with : OpenPiece → List ℕ → OpenPiece
piece_with (open_piece.Within k d) more = open_piece.Within k (with_bytes d more)
piece_with (open_piece.Beyond k) more = open_piece.Beyond k

-- a scan after a byte of its piece: the bytes FF that were held back belong to the piece too
abbrev pub scan_with : OpenScan → ℕ → OpenScan
scan_with scan b = record scan { held = Nothing; piece = piece_with scan.piece (held_bytes scan.held ++ b ∷ []) }

-- a scan after a mark, at its next piece
abbrev pub scan_after : OpenScan → PieceNumber → ℕ → OpenScan
scan_after scan number offset =
    record scan { last = given_last scan.last number; held = Nothing; offset = offset; piece = piece_opened scan.plan number }

-- scan data
abbrev pub from_scan : ByteClass → OpenScan → ℕ → ℕ → CopyPosition
from_scan Fill scan count b = InScan (record scan { held = one_more scan.held })
from_scan Mark scan count b = InScan (scan_after scan (number_after (intervals scan.plan) scan.last (b - 0xD0)) (count + 1))
from_scan Stop scan count b = from_marker true true count b
from_scan Data scan count b = InScan (scan_with scan b)

-- the step that a byte makes from a place
abbrev pub step_from : CopyPosition → ℕ → HeaderState → List ℕ → ℕ → Step
step_from (Start fill) count h payload b = step_to h payload (from_start fill count b)
step_from (AtMarker fill) count h payload b = step_to h payload (from_marker fill (is_some h.frame) count b)
step_from (AtLength marker code) count h payload b = step_to h payload (InLength marker code b)
step_from (InLength marker code high) count h payload b = length_known count h marker code (256 * high + b)
step_from (InPayload marker code size) count h payload b = payload_grown count h (payload ++ b ∷ []) marker code size
step_from (InScan scan) count h payload b = step_to h payload (from_scan (class_of scan.held b) scan count b)
step_from (Done e) count h payload b = step_to h payload (Done e)

-- the step that a byte makes from a state
abbrev pub step : ReaderState → ℕ → Step
step st b = step_from st.place st.count st.headers st.payload b

-- one byte more
abbrev pub after_byte : ReaderState → ℕ → ReaderState
after_byte st b = record { count = st.count + 1; place = (step st b).place; headers = (step st b).headers; payload = (step st b).payload }

-- an open piece as a found one
abbrev pub number_of : OpenPiece → PieceNumber
number_of (open_piece.Within k d) = Interval k
number_of (open_piece.Beyond k) = BeyondLast k

-- the bytes that a decoder was fed, or none once memory was refused
abbrev pub fed : Option (List ℕ) → List ℕ
fed (Some bytes) = bytes
fed None = []

-- the bytes of an open piece; of a piece beyond the last interval none are kept
abbrev pub bytes_of : OpenPiece → List ℕ
bytes_of (open_piece.Within k d) = fed d.bytes
bytes_of (open_piece.Beyond k) = []

-- an open piece of a scan as a found one
abbrev pub piece_found : ℕ → Scan → ℕ → OpenPiece → FoundPiece
piece_found index plan offset piece =
    record { scan = index; plan = plan; number = number_of piece; offset = offset; bytes = bytes_of piece }

-- the open piece of a scan as a found one
abbrev pub found : OpenScan → FoundPiece
found scan = piece_found scan.index scan.plan scan.offset scan.piece

-- the piece that a byte closes
abbrev pub closed_by : ByteClass → OpenScan → List FoundPiece
closed_by Fill scan = []
closed_by Mark scan = found scan ∷ []
closed_by Stop scan = found scan ∷ []
closed_by Data scan = []

-- the pieces that a byte closes at a place: one or none
abbrev pub closed_at : CopyPosition → ℕ → List FoundPiece
closed_at (Start fill) b = []
closed_at (AtMarker fill) b = []
closed_at (AtLength marker code) b = []
closed_at (InLength marker code high) b = []
closed_at (InPayload marker code size) b = []
closed_at (InScan scan) b = closed_by (class_of scan.held b) scan
closed_at (Done e) b = []

-- where the copy ends if the input does
abbrev pub end_at : CopyPosition → ℕ → End
end_at (Start fill) count = end.Header fault.Ended count
end_at (AtMarker true) count = end.Header fault.Ended count
end_at (AtMarker false) count = end.Input count
end_at (AtLength marker code) count = end.Header fault.Ended count
end_at (InLength marker code high) count = end.Header fault.Ended count
end_at (InPayload marker code size) count = end.Header fault.Ended count
end_at (InScan scan) count = end.Input count
end_at (Done e) count = e

-- the pieces that the input's end closes at a place: one or none
abbrev pub closed_at_end : CopyPosition → List FoundPiece
closed_at_end (Start fill) = []
closed_at_end (AtMarker fill) = []
closed_at_end (AtLength marker code) = []
closed_at_end (InLength marker code high) = []
closed_at_end (InPayload marker code size) = []
closed_at_end (InScan scan) = found scan ∷ []
closed_at_end (Done e) = []

-- the state after these bytes, with the pieces that they closed
pub record StateWithPieces : Type 0 where
  pub state : ReaderState
  pub pieces : List FoundPiece

-- a reading after one byte more
abbrev pub reading_with : StateWithPieces → ℕ → StateWithPieces
reading_with r b = record { state = after_byte r.state b; pieces = r.pieces ++ closed_at r.state.place b }

-- a reading after more bytes
abbrev pub reading_from : StateWithPieces → List ℕ → StateWithPieces
reading_from r [] = r
reading_from r (b ∷ bytes) = reading_from (reading_with r b) bytes

-- the state after these bytes, from the first one on, with the pieces that they closed, under a profile
abbrev pub reading : Profile → List ℕ → StateWithPieces
reading profile bytes = reading_from (record { state = first_state profile; pieces = [] }) bytes
