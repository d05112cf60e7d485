-- The laws of what is reported of a copy beside its readings: offsets, and records of faulty pieces. Each is the contract of a function
-- with an empty body.
use Rattle.std.specs.Prelude.{◌≡◌, ℕ, ◌≢◌, Bool, true, false, List, [], ◌∷◌, ◌++◌, length, take}
use Rattle.std.specs.List.{AllByRecursion}
use Rattle.jls_marker.specs.declared.profile.Profile.{Profile}
use Rattle.jls_marker.specs.declared.profile.Profile.TheVariants.{Strict}
use Rattle.jls_copy.specs.Course.{Course, IsCourseUnder}
use Rattle.jls_copy.specs.Pieces.{FoundPiece, Lines, Fault, IsOutcome, value_of, pieces}
use Rattle.jls_copy.specs.ReadCopy.{ReadCopy}
use Rattle.jls_copy.specs.CopyReads.{CopyReadsUnder}
use Rattle.jls_copy.specs.declared.end.End.{End}
use Rattle.jls_copy.specs.declared.end.End.TheVariants.{Eoi, Input, Header}
use Rattle.jls_copy.specs.declared.piece.PieceRecord.{PieceRecord}
use Rattle.jls_marker.specs.MarkerCodes.{has_segment}
use Rattle.jls_marker.specs.declared.fault.MarkerFault.{MarkerFault}
use Rattle.jls_marker.specs.declared.fault.MarkerFault.TheVariants as fault

-- after so many bytes of the copy come these bytes
pub record StandsAt (copy : List ℕ) (offset : ℕ) (bytes : List ℕ) : Type 0 where
  pub prefix : List ℕ
  pub back : List ℕ
  pub copy_is : copy ≡ prefix ++ (bytes ++ back)
  pub offset_is : offset ≡ length prefix

-- under a profile, the bytes of each piece of a course are at its offset in the copy
abbrev pub PiecesStandAtTheirOffsetsUnder : Profile → Type 0
PiecesStandAtTheirOffsetsUnder profile = (copy : List ℕ) (c : Course) → IsCourseUnder profile copy c
    → AllByRecursion (λ piece. StandsAt copy piece.offset piece.bytes) (pieces c)

-- the same under the strict profile
abbrev pub PiecesStandAtTheirOffsets : Type 0
PiecesStandAtTheirOffsets = PiecesStandAtTheirOffsetsUnder Strict

-- whether a fault is one that a whole marker segment, or its length, can have. The others are of a code without a segment, a byte that
-- begins no marker, a missing SOI, and an input that ends too early
abbrev pub is_of_segment : MarkerFault → Bool
is_of_segment fault.UnknownMarker = false
is_of_segment fault.NoMarker = false
is_of_segment fault.NoSoi = false
is_of_segment fault.Ended = false
is_of_segment f = true

-- at the offset of an end is what that end says. The offset of a marker is that of the last byte 0xFF before its code
pub data EndStands (copy : List ℕ) : End → Type 0 where
  eoi : (offset : ℕ) → StandsAt copy offset (0xFF ∷ 0xD9 ∷ []) → EndStands copy (Eoi offset)
  input : (offset : ℕ) → offset ≡ length copy → EndStands copy (Input offset)
  eoi_before_a_frame : (offset : ℕ) → StandsAt copy offset (0xFF ∷ 0xD9 ∷ []) → EndStands copy (Header fault.NoFrame offset)
  refused_segment : (f : MarkerFault) (offset code : ℕ) → is_of_segment f ≡ true → has_segment code ≡ true
      → StandsAt copy offset (0xFF ∷ code ∷ []) → EndStands copy (Header f offset)
  unknown_marker : (offset code : ℕ) → code ≢ 0xFF → code ≢ 0xD9 → has_segment code ≡ false → StandsAt copy offset (0xFF ∷ code ∷ [])
      → EndStands copy (Header fault.UnknownMarker offset)
  no_marker : (offset byte : ℕ) → byte ≢ 0xFF → StandsAt copy offset (byte ∷ []) → EndStands copy (Header fault.NoMarker offset)
  another_marker : (offset code : ℕ) → code ≢ 0xFF → code ≢ 0xD8 → StandsAt copy offset (0xFF ∷ code ∷ [])
      → EndStands copy (Header fault.NoSoi offset)
  no_marker_first : (byte : ℕ) → byte ≢ 0xFF → StandsAt copy 0 (byte ∷ []) → EndStands copy (Header fault.NoSoi 0)
  too_early : (offset : ℕ) → offset ≡ length copy → EndStands copy (Header fault.Ended offset)

-- under a profile, what an end and its fault say is found at the end's offset
abbrev pub EndsStandAtTheirOffsetsUnder : Profile → Type 0
EndsStandAtTheirOffsetsUnder profile = (copy : List ℕ) (c : Course) → IsCourseUnder profile copy c → EndStands copy c.end

-- the same under the strict profile
abbrev pub EndsStandAtTheirOffsets : Type 0
EndsStandAtTheirOffsets = EndsStandAtTheirOffsetsUnder Strict

-- the record of a piece that doesn't read: its scan, its number, the offset of its first byte, and why
pub record IsRecordOf (p : FoundPiece) (r : PieceRecord) : Type 0 where
  pub scan : r.scan ≡ p.scan
  pub interval : r.interval ≡ value_of p.number
  pub offset : r.offset ≡ p.offset
  pub kind : IsOutcome p (Fault r.kind)

-- each of these pieces reads as lines, or its record is in the list, in order. The list has no other records
pub data AreRecordsOf : List FoundPiece → List PieceRecord → Type 0 where
  of_none : AreRecordsOf [] []
  reads : (p : FoundPiece) (ps : List FoundPiece) (rs : List PieceRecord) (lines : List (List ℕ)) → IsOutcome p (Lines lines)
      → AreRecordsOf ps rs → AreRecordsOf (p ∷ ps) rs
  faulty : (p : FoundPiece) (ps : List FoundPiece) (r : PieceRecord) (rs : List PieceRecord) → IsRecordOf p r
      → AreRecordsOf ps rs → AreRecordsOf (p ∷ ps) (r ∷ rs)

-- under a profile, each of the first 4,096 faulty pieces of a copy has a record, and the number is that of all faulty pieces
abbrev pub RecordsAreOfFaultyPiecesUnder : Profile → Type 0
RecordsAreOfFaultyPiecesUnder profile = (copy : List ℕ) (read : ReadCopy) → (h : CopyReadsUnder profile copy read)
    → (rs : List PieceRecord) × AreRecordsOf (pieces h.course) rs × (read.pieces ≡ take 4096 rs) × (read.piece_count ≡ length rs)

-- the same under the strict profile
abbrev pub RecordsAreOfFaultyPieces : Type 0
RecordsAreOfFaultyPieces = RecordsAreOfFaultyPiecesUnder Strict
