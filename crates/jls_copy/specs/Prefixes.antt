-- Prefixes of copies, and the piece in hand where one ends: the piece that the prefix's end closes, if the input ends there.
use Rattle.std.specs.Prelude.{◌≡◌, ◌↔◌, ℕ, ◌<◌, ◌≤◌, ◌⊎◌, List, ◌++◌, Some, IfSome}
use Rattle.std.specs.List.{AllByRecursion, Contains}
use Rattle.jls_values.specs.Shape.{PictureShape}
use Rattle.jls_piece.specs.Reads.{ReadsNoMore}
use Rattle.jls_piece.specs.PieceBytes.{piece_asked}
use Rattle.jls_marker.specs.Scan.{Scan}
use Rattle.jls_copy.specs.Numbers.{PieceNumber}
use Rattle.jls_marker.specs.declared.profile.Profile.{Profile}
use Rattle.jls_marker.specs.declared.profile.Profile.TheVariants.{Strict}
use Rattle.jls_copy.specs.Course.{Course, IsCourseUnder}
use Rattle.jls_partial.specs.Reading.{Reading}
use Rattle.jls_copy.specs.Pieces.{FoundPiece, Fault, Lines, IsOutcomeAt, IsOutcome, readings_of, pieces}
use Rattle.jls_copy.specs.declared.piece.PieceKind.{PieceKind}
use Rattle.jls_copy.specs.CutPieces.{cut_pieces, IsHeadAt}
use Rattle.jls_copy.specs.declared.end.End.{End}
use Rattle.jls_copy.specs.declared.end.End.TheVariants.{Eoi, Input, Header}
use Rattle.jls_copy.specs.declared.piece.OpenPiece.{OpenPiece}
use Rattle.jls_copy.specs.declared.piece.OpenPiece.TheVariants.{Within, Beyond}
use Rattle.jls_copy.specs.declared.place.CopyPosition.{CopyPosition}
use Rattle.jls_copy.specs.declared.place.CopyPosition.TheVariants.{Start, AtMarker, AtLength, InLength, InPayload, InScan, Done}

-- whatever bytes follow these, they read as no lines of this number of a scan
abbrev pub NeverReads : Scan → PieceNumber → List ℕ → Type 0
NeverReads s n bytes = (more : List ℕ) (lines : List (List ℕ)) → IsOutcomeAt s n (bytes ++ more) (Lines lines) → ⊥

-- under a profile, the piece that the end of these bytes closes reads as no lines, whatever bytes follow it
pub record IsPieceBrokenUnder (profile : Profile) (prefix : List ℕ) : Type 0 where
  pub course : Course
  pub is_course : IsCourseUnder profile prefix course
  pub piece : FoundPiece
  pub in_hand : Contains (cut_pieces course) piece
  pub broken : NeverReads piece.plan piece.number piece.bytes

-- the same under the strict profile
abbrev pub IsPieceBroken : List ℕ → Type 0
IsPieceBroken prefix = IsPieceBrokenUnder Strict prefix

-- under a profile, a list of bytes that begins with such a prefix has a piece with that scan, number and offset. It reads as no lines
abbrev pub PrefixesStayBrokenUnder : Profile → Type 0
PrefixesStayBrokenUnder profile =
    (prefix more : List ℕ) → AllByRecursion (λ b. b < 256) (prefix ++ more)
    → (broken : IsPieceBrokenUnder profile prefix) → (c : Course) → IsCourseUnder profile (prefix ++ more) c
    → (p : FoundPiece) × Contains (pieces c) p × (p.plan ≡ broken.piece.plan) × (p.number ≡ broken.piece.number)
    × (p.offset ≡ broken.piece.offset) × ((lines : List (List ℕ)) → IsOutcome p (Lines lines) → ⊥)

-- the same under the strict profile
abbrev pub PrefixesStayBroken : Type 0
PrefixesStayBroken = PrefixesStayBrokenUnder Strict

-- under a profile, each list of bytes that begins with these has a faulty piece
abbrev pub StaysFaultyUnder : Profile → List ℕ → Type 0
StaysFaultyUnder profile prefix =
    (more : List ℕ) → AllByRecursion (λ b. b < 256) (prefix ++ more) → (c : Course) → IsCourseUnder profile (prefix ++ more) c
    → (p : FoundPiece) × Contains (pieces c) p × (kind : PieceKind) × IsOutcome p (Fault kind)

-- the same under the strict profile
abbrev pub StaysFaulty : List ℕ → Type 0
StaysFaulty prefix = StaysFaultyUnder Strict prefix

-- What they give --------------------------------------------------------------------------------------------------

-- the piece reads as some lines; so it is neither too long nor broken nor beyond the last interval
abbrev pub HasLines : FoundPiece → Type 0
HasLines p = (lines : List (List ℕ)) × IsOutcome p (Lines lines)

-- a piece of a course decodes to lines, one of which is the reading, or the piece that the input's end cuts off has it in its head
abbrev pub CourseHasReading : Course → Reading → Type 0
CourseHasReading c r =
    ((p : FoundPiece) × Contains (pieces c) p × (lines : List (List ℕ)) × IsOutcome p (Lines lines)
    × Contains (readings_of p (Lines lines)) r)
    ⊎ ((p : FoundPiece) × Contains (cut_pieces c) p × (head : List (List ℕ)) × IsHeadAt p.plan p.number p.bytes head
    × Contains (readings_of p (Lines head)) r)

-- under a profile, each reading that bytes give, a longer list of bytes that begins with them gives too, if each of its pieces reads as
-- lines
abbrev pub PrefixesKeepReadingsUnder : Profile → Type 0
PrefixesKeepReadingsUnder profile =
    (prefix more : List ℕ) → AllByRecursion (λ b. b < 256) (prefix ++ more)
    → (c d : Course) → IsCourseUnder profile prefix c → IsCourseUnder profile (prefix ++ more) d → AllByRecursion HasLines (pieces d)
    → (r : Reading) → CourseHasReading c r → CourseHasReading d r

-- the same under the strict profile
abbrev pub PrefixesKeepReadings : Type 0
PrefixesKeepReadings = PrefixesKeepReadingsUnder Strict

-- Pieces that are settled -----------------------------------------------------------------------------------------

-- under a profile, the piece that the end of these bytes closes begins at this offset, or after it
pub record IsPastUnder (profile : Profile) (offset : ℕ) (prefix : List ℕ) : Type 0 where
  pub course : Course
  pub is_course : IsCourseUnder profile prefix course
  pub piece : FoundPiece
  pub in_hand : Contains (cut_pieces course) piece
  pub past : offset ≤ piece.offset

-- the same under the strict profile
abbrev pub IsPast : ℕ → List ℕ → Type 0
IsPast offset prefix = IsPastUnder Strict offset prefix

-- the offset at which a copy ends
abbrev pub offset_of_end : End → ℕ
offset_of_end (Eoi offset) = offset
offset_of_end (Input offset) = offset
offset_of_end (Header f offset) = offset

-- the pieces begin at one offset, and if one of them reads as lines, both do
pub record ReadAlike (p q : FoundPiece) : Type 0 where
  pub offset : p.offset ≡ q.offset
  pub reads : HasLines p ↔ HasLines q

-- each piece of a course that begins before the offset reads like one of the other course
abbrev pub AreAlsoIn : ℕ → Course → Course → Type 0
AreAlsoIn offset c d =
    (p : FoundPiece) → Contains (pieces c) p → p.offset < offset → (q : FoundPiece) × Contains (pieces d) q × ReadAlike p q

-- two courses have a frame each, end at the offset or after it, and before it have pieces that read alike
pub record AgreeBefore (offset : ℕ) (c d : Course) : Type 0 where
  pub first_framed : (shape : PictureShape) × (c.headers.frame ≡ Some shape)
  pub second_framed : (shape : PictureShape) × (d.headers.frame ≡ Some shape)
  pub first_end : offset ≤ offset_of_end c.end
  pub second_end : offset ≤ offset_of_end d.end
  pub first_in_second : AreAlsoIn offset c d
  pub second_in_first : AreAlsoIn offset d c

-- under a profile, what begins before the piece in hand is settled: a longer list of bytes has the same pieces there, up to what they read
-- as
abbrev pub PrefixesSettlePiecesUnder : Profile → Type 0
PrefixesSettlePiecesUnder profile =
    (offset : ℕ) (prefix more : List ℕ) → AllByRecursion (λ b. b < 256) (prefix ++ more) → IsPastUnder profile offset prefix
    → (c d : Course) → IsCourseUnder profile prefix c → IsCourseUnder profile (prefix ++ more) d → AgreeBefore offset c d

-- the same under the strict profile
abbrev pub PrefixesSettlePieces : Type 0
PrefixesSettlePieces = PrefixesSettlePiecesUnder Strict

-- Inside the crate. An open piece reads as no lines, whatever follows
abbrev pub OpenReadsNoMore : OpenPiece → Type 0
OpenReadsNoMore (Within k d) = IfSome d.bytes (λ bytes. ReadsNoMore (piece_asked d) bytes)
OpenReadsNoMore (Beyond k) = Unit {0}

-- the place is in scan data, and its open piece reads as no lines, whatever follows
abbrev pub PlaceReadsNoMore : CopyPosition → Type 0
PlaceReadsNoMore (Start fill) = ⊥
PlaceReadsNoMore (AtMarker fill) = ⊥
PlaceReadsNoMore (AtLength marker code) = ⊥
PlaceReadsNoMore (InLength marker code high) = ⊥
PlaceReadsNoMore (InPayload marker code size) = ⊥
PlaceReadsNoMore (InScan scan) = OpenReadsNoMore scan.piece
PlaceReadsNoMore (Done e) = ⊥

-- the place is in scan data, and its open piece begins at the offset, or after it
abbrev pub PlaceIsPast : ℕ → CopyPosition → Type 0
PlaceIsPast offset (Start fill) = ⊥
PlaceIsPast offset (AtMarker fill) = ⊥
PlaceIsPast offset (AtLength marker code) = ⊥
PlaceIsPast offset (InLength marker code high) = ⊥
PlaceIsPast offset (InPayload marker code size) = ⊥
PlaceIsPast offset (InScan scan) = offset ≤ scan.offset
PlaceIsPast offset (Done e) = ⊥
