-- A piece of a scan by line reads as an interval by line does, and has the same head.
use Rattle.std.proofs.Common.{◌≡◌, ℕ, Bool, false, List, sym, ap, subst}
use Rattle.jls_interval.specs.Heads as line_head
use Rattle.jls_interval.specs.Reads as line_read
use Rattle.jls_piece.specs.Heads.{IsHeadOfPiece}
use Rattle.jls_piece.specs.Lines.{PieceShape, line_piece}
use Rattle.jls_piece.specs.Reads.{Reads}
use Rattle.jls_piece.proofs.LinePieces.{reads_to, reads_from, piece_head_from, is_interval}
use Rattle.jls_marker.specs.Scan.{Scan}
use Rattle.jls_copy.specs.IntervalOf.{interval_of}
use Rattle.jls_copy_laws.specs.Gives.{line_interval}

module _ (s : Scan) (k : ℕ) (by_line : s.by_sample ≡ false) where
  -- the piece is the interval
  is_line_piece : interval_of s k ≡ line_piece (line_interval s k)
  is_line_piece = ap (λ (by_sample : Bool). record (interval_of s k) { by_sample = by_sample }) by_line

  pub reads_by_line : (bytes : List ℕ) (lines : List (List ℕ)) → Reads (interval_of s k) bytes lines
      → line_read.Reads (line_interval s k) bytes lines
  reads_by_line bytes lines h =
      reads_to (line_interval s k) bytes lines (subst (λ (i : PieceShape). Reads i bytes lines) is_line_piece h)

  pub reads_as_piece : (bytes : List ℕ) (lines : List (List ℕ)) → line_read.Reads (line_interval s k) bytes lines
      → Reads (interval_of s k) bytes lines
  reads_as_piece bytes lines h =
      subst (λ (i : PieceShape). Reads i bytes lines) (sym is_line_piece) (reads_from (line_interval s k) bytes lines h)

  pub head_by_line : (bytes : List ℕ) (head : List (List ℕ)) → IsHeadOfPiece (interval_of s k) bytes head
      → line_head.IsHeadOfPiece (line_interval s k) bytes head
  head_by_line bytes head h =
      ((is_interval (line_interval s k)).is_head_of_piece bytes head).0
      (subst (λ (i : PieceShape). IsHeadOfPiece i bytes head) is_line_piece h)

  pub head_as_piece : (bytes : List ℕ) (head : List (List ℕ)) → line_head.IsHeadOfPiece (line_interval s k) bytes head
      → IsHeadOfPiece (interval_of s k) bytes head
  head_as_piece bytes head h =
      subst (λ (i : PieceShape). IsHeadOfPiece i bytes head) (sym is_line_piece) (piece_head_from (line_interval s k) bytes head h)
