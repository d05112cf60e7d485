-- True files: undamaged files of one picture, each of which has the held bytes of a mended file.
use Rattle.std.specs.Prelude.{◌≡◌, ℕ, ◌<◌, ◌≤◌, List, [], length, get_or}
use Rattle.std.specs.List.{AllByRecursion, Contains}
use Rattle.jls_piece.specs.Lines.{PieceShape}
use Rattle.jls_piece.specs.Reads.{Reads}
use Rattle.jls_partial.specs.Reading.{Reading}
use Rattle.jls_marker.specs.Scan.{first_row}
use Rattle.jls_marker.specs.declared.profile.Profile.TheVariants.{Wide}
use Rattle.jls_copy.specs.Course.{Course, IsCourseUnder}
use Rattle.jls_copy.specs.IntervalOf.{interval_of}
use Rattle.jls_copy.specs.Numbers.{Interval}
use Rattle.jls_copy.specs.Pieces.{FoundPiece, pieces, placed}
use Rattle.jls_held.specs.MendedFiles.{MendedFile, HasHeldBytes}
use Rattle.jls_held.specs.HeldLines.{PieceOf}
use Rattle.jls_held.specs.Edits.{Edit, edited, AreRefilled}
use Rattle.jls_held.specs.Judging.{EditedCopy}

-- the lines of a picture, by component and row
abbrev pub PictureLines : Type 0
PictureLines = ℕ → ℕ → List ℕ

-- the reading is a line of the picture
abbrev pub IsPictureLine : PictureLines → Reading → Type 0
IsPictureLine picture r = r.samples ≡ picture r.component r.line

-- the piece reads as lines of the picture, as the interval of this number
pub record IsTruePiece (picture : PictureLines) (p : FoundPiece) (k : ℕ) : Type 0 where
  pub number_is : p.number ≡ Interval k
  pub lines : List (List ℕ)
  pub reads : Reads (interval_of p.plan k) p.bytes lines
  pub each : AllByRecursion (IsPictureLine picture) (placed p.plan.components (first_row p.plan k) 0 lines)

-- each piece of the course reads as lines of the picture
abbrev pub HasTruePieces : PictureLines → Course → Type 0
HasTruePieces picture c = (q : FoundPiece) → Contains (pieces c) q → (k : ℕ) × IsTruePiece picture q k

-- a true file of the picture: it has the held bytes of the mended one, and each of its pieces, by line or by sample, reads as lines of the
-- picture
pub record IsTrueFile (picture : PictureLines) (f : MendedFile) (bytes : List ℕ) : Type 0 where
  pub are_bytes : AllByRecursion (λ b. b < 256) bytes
  pub has_held : HasHeldBytes f bytes
  pub course : Course
  pub is_course : IsCourseUnder Wide bytes course
  pub each : HasTruePieces picture course

-- Skeletons -----------------------------------------------------------------------------------------

-- what a skeleton has of a piece: where it begins, its components, the shape of its interval, and the interval's first row
pub record PieceHead : Type 0 where
  pub offset : ℕ
  pub components : List ℕ
  pub shape : PieceShape
  pub row : ℕ

-- the head of a piece that has the number of an interval
abbrev pub head_of : FoundPiece → ℕ → PieceHead
head_of p k = record {
  offset = p.offset;
  components = p.plan.components;
  shape = interval_of p.plan k;
  row = first_row p.plan k;
}

-- some piece of the course has the head of a file's piece
pub record HasHead (c : Course) (f : MendedFile) (p : PieceOf f) : Type 0 where
  pub piece : FoundPiece
  pub among : Contains (pieces c) piece
  pub number : ℕ
  pub number_is : piece.number ≡ Interval number
  pub head_is : head_of piece number ≡ head_of p.piece p.number

-- the course has the skeleton of a file: the heads of all its pieces that have the number of an interval
abbrev pub HasSkeleton : Course → MendedFile → Type 0
HasSkeleton c f = (p : PieceOf f) → HasHead c f p

-- Mended files that have true files of one picture ----------------------------------------------------

-- the bytes of each of the files are bytes
abbrev pub AreFilesOfBytes : List MendedFile → Type 0
AreFilesOfBytes files = (f : MendedFile) → Contains files f → AllByRecursion (λ b. b < 256) f.bytes

-- each of the files has a true file with its skeleton. It can be longer, where the mended file is cut off
abbrev pub HaveTrueFilesOfTheirSkeletons : PictureLines → List MendedFile → Type 0
HaveTrueFilesOfTheirSkeletons picture files = (f : MendedFile) → Contains files f
    → (bytes : List ℕ) × (t : IsTrueFile picture f bytes) × HasSkeleton t.course f

-- each of the files has a true file that is at least as long
abbrev pub HaveTrueFilesAsLong : PictureLines → List MendedFile → Type 0
HaveTrueFilesAsLong picture files = (f : MendedFile) → Contains files f
    → (bytes : List ℕ) × (IsTrueFile picture f bytes) × (length f.bytes ≤ length bytes)

-- Copies of one true file ------------------------------------------------------------------------------

-- The copy was damaged nowhere but in its edits, and the true bytes there are as many as those of the edits: with them it is the true file
pub record IsCopyOf (copies : List (List ℕ)) (truth : List ℕ) (e : EditedCopy) : Type 0 where
  pub edits : List Edit
  pub are_refilled : AreRefilled e.edits edits
  pub makes : (edited 0 (get_or copies e.number []) edits).bytes ≡ truth
