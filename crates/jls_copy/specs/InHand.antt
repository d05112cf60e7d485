-- The piece in hand where some bytes end, and the first lines with whose code it begins.
use Rattle.std.specs.Prelude.{◌≡◌, ℕ, ◌<◌, ◌≤◌, true, ◌⊎◌, Bool, List, ◌++◌, length, IfSome}
use Rattle.std.specs.List.{AllByRecursion, Contains}
use Rattle.jls_bits.specs.Bits.{is_whole}
use Rattle.jls_piece.specs.Lines.{PieceShape}
use Rattle.jls_piece.specs.Reads.{BeginsWithCode, Reads}
use Rattle.jls_piece.specs.Heads.{IsHeadOfPiece}
use Rattle.jls_piece.specs.PieceBytes.{piece_asked}
use Rattle.jls_marker.specs.Scan.{Scan}
use Rattle.jls_copy.specs.Numbers.{Interval}
use Rattle.jls_marker.specs.declared.profile.Profile.{Profile}
use Rattle.jls_marker.specs.declared.profile.Profile.TheVariants.{Strict}
use Rattle.jls_copy.specs.Course.{Course, IsCourseUnder}
use Rattle.jls_copy.specs.IntervalOf.{interval_of}
use Rattle.jls_copy.specs.Pieces.{FoundPiece, pieces}
use Rattle.jls_copy.specs.CutPieces.{cut_pieces}
use Rattle.jls_copy.specs.declared.piece.OpenPiece.{OpenPiece}
use Rattle.jls_copy.specs.declared.piece.OpenPiece.TheVariants.{Within, Beyond}
use Rattle.jls_copy.specs.declared.place.CopyPosition.{CopyPosition}
use Rattle.jls_copy.specs.declared.place.CopyPosition.TheVariants.{Start, AtMarker, AtLength, InLength, InPayload, InScan, Done}

-- the shape of an interval's first lines, of which there are so many
abbrev pub first_lines : PieceShape → ℕ → PieceShape
first_lines i count = record i { line_count = count }

-- the piece begins with the code of these lines, the first of an interval of this shape, whatever follows (T.87 A.1)
pub record BeginsWithLines (i : PieceShape) (piece : List ℕ) (lines : List (List ℕ)) : Type 0 where
  pub at_most : length lines ≤ i.line_count
  pub unread : List Bool
  pub begins : BeginsWithCode (first_lines i (length lines)) piece lines unread

-- under a profile, the piece that the end of these bytes closes is that of this interval of a scan, begins at this offset, and begins with
-- the code of lines, one at least
pub record IsInHandUnder (profile : Profile) (prefix : List ℕ) (plan : Scan) (interval offset : ℕ) (lines : List (List ℕ)) : Type 0 where
  pub course : Course
  pub is_course : IsCourseUnder profile prefix course
  pub piece : FoundPiece
  pub in_hand : Contains (cut_pieces course) piece
  pub plan_is : piece.plan ≡ plan
  pub number_is : piece.number ≡ Interval interval
  pub offset_is : piece.offset ≡ offset
  pub some_line : 0 < length lines
  pub begins : BeginsWithLines (interval_of plan interval) piece.bytes lines

-- the same under the strict profile
abbrev pub IsInHand : List ℕ → Scan → ℕ → ℕ → List (List ℕ) → Type 0
IsInHand prefix plan interval offset lines = IsInHandUnder Strict prefix plan interval offset lines

-- under a profile, each longer list of bytes has a piece there, of the same interval of a scan. It begins with the code of these lines too,
-- if it has data bits
abbrev pub PrefixesGoOnUnder : Profile → Type 0
PrefixesGoOnUnder profile =
    (prefix more : List ℕ) → AllByRecursion (λ b. b < 256) (prefix ++ more)
    → (plan : Scan) (interval offset : ℕ) (lines : List (List ℕ)) → IsInHandUnder profile prefix plan interval offset lines
    → (d : Course) → IsCourseUnder profile (prefix ++ more) d
    → (q : FoundPiece) × Contains (pieces d) q × (q.plan ≡ plan) × (q.number ≡ Interval interval) × (q.offset ≡ offset)
    × (is_whole q.bytes ≡ true → BeginsWithLines (interval_of plan interval) q.bytes lines)

-- the same under the strict profile
abbrev pub PrefixesGoOn : Type 0
PrefixesGoOn = PrefixesGoOnUnder Strict

-- Inside the crate -------------------------------------------------------------------------------------------------

-- the bytes read as these lines, or these are the lines of their head
abbrev pub AreFirst : PieceShape → List ℕ → List (List ℕ) → Type 0
AreFirst i bytes lines = Reads i bytes lines ⊎ IsHeadOfPiece i bytes lines

-- an open piece has this number, and these first lines, one at least
abbrev pub OpenHolds : OpenPiece → ℕ → List (List ℕ) → Type 0
OpenHolds (Within k d) interval lines =
    (k ≡ interval) × (0 < length lines) × IfSome d.bytes (λ bytes. AreFirst (piece_asked d) bytes lines)
OpenHolds (Beyond k) interval lines = ⊥

-- the place is in scan data of this plan, and its open piece begins at this offset, has this number and these first lines
abbrev pub PlaceHolds : CopyPosition → Scan → ℕ → ℕ → List (List ℕ) → Type 0
PlaceHolds (Start fill) plan interval offset lines = ⊥
PlaceHolds (AtMarker fill) plan interval offset lines = ⊥
PlaceHolds (AtLength marker code) plan interval offset lines = ⊥
PlaceHolds (InLength marker code high) plan interval offset lines = ⊥
PlaceHolds (InPayload marker code size) plan interval offset lines = ⊥
PlaceHolds (InScan scan) plan interval offset lines = (scan.plan ≡ plan) × (scan.offset ≡ offset) × OpenHolds scan.piece interval lines
PlaceHolds (Done e) plan interval offset lines = ⊥
