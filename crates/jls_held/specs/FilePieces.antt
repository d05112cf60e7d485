-- Pieces of mended files, and the lines with whose code they begin, as they were in hand.
use Rattle.std.specs.Prelude.{◌≡◌, ◌≢◌, ℕ, List, ◌++◌, length, map, All}
use Rattle.jls_marker.specs.declared.profile.Profile.TheVariants.{Wide}
use Rattle.jls_copy.specs.IntervalOf.{interval_of}
use Rattle.jls_copy.specs.declared.piece_in_hand.PieceInHand.{PieceInHand}
use Rattle.jls_held.specs.MendedFiles.{MendedFile}
use Rattle.jls_copy.specs.InHand.{BeginsWithLines, IsInHandUnder}
use Rattle.jls_copy.specs.ReadCopy.{ReadCopy}
use Rattle.jls_held.specs.HeldLines.{PieceOf}

-- the lines of a piece, from its interval's first on
abbrev pub lines_of : PieceInHand → List (List ℕ)
lines_of p = map (λ l. l.items) p.lines.items

-- it is a piece of this file, with its scan, number and offset, and the piece begins with the code of its lines
pub record IsPieceOf (f : MendedFile) (p : PieceInHand) : Type 0 where
  pub found : PieceOf f
  pub plan_is : found.piece.plan ≡ p.plan
  pub number_is : found.number ≡ p.interval
  pub offset_is : found.piece.offset ≡ p.offset
  pub begins : BeginsWithLines (interval_of p.plan p.interval) found.piece.bytes (lines_of p)

-- Inside the crate. Bytes begin with some in whose hand the piece is
pub record IsTold (bytes : List ℕ) (p : PieceInHand) : Type 0 where
  pub prefix : List ℕ
  pub more : List ℕ
  pub bytes_are : bytes ≡ prefix ++ more
  pub in_hand : IsInHandUnder Wide prefix p.plan p.interval p.offset (lines_of p)

-- all records of a copy are kept, and none has the offset of the piece
pub record HasNoRecord (read : ReadCopy) (p : PieceInHand) : Type 0 where
  pub all_kept : read.piece_count ≡ length read.pieces
  pub none : All (λ r. r.offset ≢ p.offset) read.pieces
