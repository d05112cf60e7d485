-- Lines that the bytes of mended files hold. All bytes of a line's code are held, and so are all lines before it in its interval. By sample
-- a row has one code, so that its lines are held together. The files are read under the wide profile: by line and by sample.
use Rattle.std.specs.Prelude.{◌≡◌, true, ℕ, ◌+◌, Bool, List, ◌++◌}
use Rattle.std.specs.List.{Contains}
use Rattle.jls_piece.specs.Lines.{PieceShape}
use Rattle.jls_partial.specs.Reading.{Reading}
use Rattle.jls_marker.specs.Scan.{first_row}
use Rattle.jls_marker.specs.declared.profile.Profile.TheVariants.{Wide}
use Rattle.jls_copy.specs.Course.{Course, IsCourseUnder}
use Rattle.jls_copy.specs.IntervalOf.{interval_of}
use Rattle.jls_copy.specs.Numbers.{Interval}
use Rattle.jls_copy.specs.Pieces.{FoundPiece, pieces, placed}
use Rattle.jls_held.specs.MendedFiles.{MendedFile, IsHeldByte}
use Rattle.jls_copy.specs.InHand.{BeginsWithLines}
use Rattle.jls_held.specs.LineCode.{AreCodedTogether, IsByteOf}

-- one of the pieces of a file that have the number of an interval
pub record PieceOf (f : MendedFile) : Type 0 where
  pub course : Course
  pub is_course : IsCourseUnder Wide f.bytes course
  pub piece : FoundPiece
  pub among : Contains (pieces course) piece
  pub number : ℕ
  pub number_is : piece.number ≡ Interval number

-- the interval whose number the piece has
abbrev pub interval_at : (f : MendedFile) → PieceOf f → PieceShape
interval_at f p = interval_of p.piece.plan p.number

-- lines of this interval, from the first on, as readings
abbrev pub placed_at : (f : MendedFile) → PieceOf f → List (List ℕ) → List Reading
placed_at f p lines = placed p.piece.plan.components (first_row p.piece.plan p.number) 0 lines

-- all bytes of the code of lines are held
abbrev pub HasHeldCode : (f : MendedFile) → PieceOf f → List (List ℕ) → List (List ℕ) → Type 0
HasHeldCode f p before lines =
    (place : ℕ) → IsByteOf (interval_at f p) p.piece.bytes before lines place → IsHeldByte f (p.piece.offset + place)

-- A piece of one of the files begins with the code of some lines. The last of them are coded together, and all bytes of their code are held
pub record HeldCode (files : List MendedFile) : Type 0 where
  pub file : MendedFile
  pub among : Contains files file
  pub piece : PieceOf file
  pub before : List (List ℕ)
  pub lines : List (List ℕ)
  pub together : AreCodedTogether (interval_at file piece) lines
  pub begins : BeginsWithLines (interval_at file piece) piece.piece.bytes (before ++ lines)
  pub held : HasHeldCode file piece before lines

-- the lines before the last ones, as readings
abbrev pub before_in : {files : List MendedFile} → HeldCode files → List Reading
before_in c = placed_at c.file c.piece c.before

-- all of these lines, as readings
abbrev pub all_in : {files : List MendedFile} → HeldCode files → List Reading
all_in c = placed_at c.file c.piece (c.before ++ c.lines)

-- The reading is held by the files. This is the least set of readings with one rule: where all bytes of some lines' code are held, and each
-- line before them is held, these lines are held
pub data IsHeld (files : List MendedFile) : Reading → Type 0 where
  in_piece : (c : HeldCode files) → ((s : Reading) → Contains (before_in c) s → IsHeld files s)
      → (r : Reading) → Contains (all_in c) r → IsHeld files r

-- the reading is one of some lines all bytes of whose code are held, and each line before them is known
pub record IsHeldBehind (files : List MendedFile) (known : Reading → Bool) (r : Reading) : Type 0 where
  pub code : HeldCode files
  pub behind : (s : Reading) → Contains (before_in code) s → known s ≡ true
  pub own : Contains (all_in code) r
